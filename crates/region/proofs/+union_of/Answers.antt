use Rattle.std.proofs.Common.{◌/◌, ◌++◌, length, ◌∙◌, ap, sym}
use Rattle.std.specs.Prelude.{◌||◌, take, drop}
use Rattle.std.proofs.lemmas.List.{take-append-drop}
use Rattle.std.proofs.lemmas.List.Folds.{list_any-append}
use Rattle.region.specs.Region.{in_rect, covers}
use Rattle.region.proofs.BandRectLemmas.{covers_has}
use Rattle.region.proofs.StackLemmas.{found_bands}
use Rattle.region.proofs.+union_of.Goals as goal

pub returns-in_ok-or-in_default : goal.returns-in_ok-or-in_default
returns-in_ok-or-in_default t c = λ x y.
    c.in_ok-or-in_default.ensures.ok x y
    ∙ ap (λ b. b || covers c.in_ok-other-in_default.other.list x y) (c.in_ok-region-in_default.ensures x y ∙ ap (λ l. covers l x y) c.split_at.ensures.front)
    ∙ ap (λ b. covers (take (length c.args.rects.now / 2) c.args.rects.now) x y || b) (c.in_ok-other-in_default.ensures x y ∙ ap (λ l. covers l x y) c.split_at.ensures.back)
    ∙ sym (list_any-append (λ r. in_rect r x y) (take (length c.args.rects.now / 2) c.args.rects.now) (drop (length c.args.rects.now / 2) c.args.rects.now))
    ∙ ap (λ l. covers l x y) (take-append-drop (length c.args.rects.now / 2) c.args.rects.now)

pub returns-in-Some : goal.returns-in-Some
returns-in-Some t c = λ x y.
    ap (λ l. covers l x y) c.in_ok-stack-in_default.ensures
    ∙ covers_has (c.in-Some.bands.above ++ c.in-Some.bands.below) x y
    ∙ (found_bands c.args.rects.now c.in_ok-bands-in_default.field-0 c.in-Some.bands c.in_ok-bands-in_default.ensures c.in-Some.is).places x y
