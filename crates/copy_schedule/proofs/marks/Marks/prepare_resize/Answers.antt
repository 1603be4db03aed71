use Rattle.std.proofs.Common.{◌≡◌, ◌∙◌, sym, ap, ◌&&◌, ◌*◌, Bool, true, false, List, refl, replicate}
use Rattle.std.specs.Prelude.{ℤ, pos, ◌-ℤ◌}
use Rattle.region.specs.declared.Rect.{Rect}
use Rattle.region.specs.Region.{covers, in_rect, on_screen}
use Rattle.region.specs.Places.{by_place}
use Rattle.region.specs.PlaceLemmas.{same_by_place, value_at}
use Rattle.copy_schedule.specs.declared.Mark.TheVariants.{Owed}
use Rattle.copy_schedule.specs.Marks.{Marks, asked_at}
use Rattle.copy_schedule.specs.MarkSets.{LiesOn}
use Rattle.copy_schedule.specs.SetLemmas.{unmoved, lies_on_part, nothing_lies}
use Rattle.copy_schedule.specs.MarkSetLemmas.{all_owed}
use Rattle.copy_schedule.proofs.marks.Marks.prepare_resize.Goals as goal

-- a test on the screen is a test
on-it : (a b d : Bool) → d ≡ true → (a && (b && d)) ≡ (a && b)
on-it true true d e = e
on-it true false d e = refl
on-it false b d e = refl

second : (a b : Bool) → (a && b) ≡ true → b ≡ true
second true b e = e
second false b e = absurd cc

-- what is outside the screen isn't asked for
outside : (w h : _) (rs : _) → LiesOn w h rs → (x y : ℤ) → on_screen w h x y ≡ false → covers rs x y ≡ false
outside w h rs lies x y off = go (covers rs x y) refl
  where
    go : (b : Bool) → covers rs x y ≡ b → b ≡ false
    go false e = refl
    go true e = absurd (never (sym (lies x y e) ∙ off))
      where
        never : true ≡ false → ⊥
        never k = cc

pub returns : goal.returns
returns c =
    let f = c.self.inside in
    let w = c.args.width in
    let h = c.args.height in
    let view = c.args.view in
    let seen : (x y : ℤ) → covers c.part_of-seen.result.list x y ≡ (in_rect view x y && on_screen w h x y) = λ x y. c.part_of-seen.ensures x y ∙ unmoved view w h x y in
    let asked : (x y : ℤ) → on_screen w h x y ≡ true → covers c.in_ok-asked.asked.list x y ≡ (covers f.asked.list x y && in_rect view x y) = λ x y on.
    c.in_ok-asked.ensures x y ∙ ap (λ b. covers f.asked.list x y && b) (seen x y) ∙ on-it (covers f.asked.list x y) (in_rect view x y) (on_screen w h x y) on in
    let was : (x y : ℤ) → asked_at c.args.self.now x y ≡ covers f.asked.list x y = λ x y.
    sym (ap (λ (n : Marks). asked_at n x y) c.self.view_is) ∙ value_at false f.width f.height (covers f.asked.list) (outside f.width f.height f.asked.list c.self.invariant.asked_on) x y in
    ap {B = Marks} (λ marks. record { width = w; height = h; marks = marks; offset = (pos 0, pos 0); asked = by_place w h (covers c.in_ok-asked.asked.list) }) (all_owed w h c.screen_places-all.result c.new.result c.screen_places-all.ensures)
    ∙ ap {B = Marks} (λ asked. record { width = w; height = h; marks = replicate (w * h) Owed; offset = (pos 0, pos 0); asked = asked })
    (same_by_place w h (covers c.in_ok-asked.asked.list) (λ x y. asked_at c.args.self.now x y && in_rect view x y) (λ x y on. asked x y on ∙ ap (λ b. b && in_rect view x y) (sym (was x y))))

none-of : (b : Bool) → (b && false) ≡ false
none-of true = refl
none-of false = refl

pub invariant_of-result : goal.invariant_of-result
invariant_of-result c =
    let w = c.args.width in
    let h = c.args.height in
    let lies : LiesOn w h c.part_of-seen.result.list = lies_on_part w h c.part_of-seen.result.list (λ x y. in_rect c.args.view (x -ℤ pos 0) (y -ℤ pos 0)) c.part_of-seen.ensures in
    record {
      columns = c.requires.columns;
      rows = c.requires.rows;
      sets = record {
        owed_on = λ x y e. sym (c.screen_places-all.ensures x y) ∙ e;
        copied_on = nothing_lies w h c.new.result.list c.new.ensures;
        apart = λ x y. ap (λ (l : List Rect). covers c.screen_places-all.result.list x y && covers l x y) c.new.ensures ∙ none-of (covers c.screen_places-all.result.list x y);
      };
      asked_on = λ x y e. lies x y (second (covers c.self.inside.asked.list x y) (covers c.part_of-seen.result.list x y) (sym (c.in_ok-asked.ensures x y) ∙ e));
    }
