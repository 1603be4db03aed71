use Rattle.std.proofs.Common.{◌≡◌, ◌||◌, ◌∙◌, sym, ap, subst, to_z, of_z, List, rules}
use Rattle.std.specs.Prelude.{FitsSigned}
use Rattle.std.specs.Int.{w32}
use Rattle.std.proofs.lemmas.Int.{to_z-of_z}
use Rattle.region.specs.declared.Rect.{Rect}
use Rattle.region.specs.Places.{longest_side}
use Rattle.copy_schedule.specs.MarkSets.{LiesOn}
use Rattle.copy_schedule.specs.Sets.{is_far_by}
use Rattle.copy_schedule.specs.SetLemmas.{near_stays, ok_holds, moved_places}
use Rattle.copy_schedule.proofs.sets.moved_by.Goals as goal

pub returns : goal.returns
returns c = λ x y on.
    let dx : FitsSigned w32 c.args.offset.0 = search rules in
    let dy : FitsSigned w32 c.args.offset.1 = search rules in
    let is_dx = to_z-of_z w32 c.args.offset.0 dx in
    let is_dy = to_z-of_z w32 c.args.offset.1 dy in
    let rs = c.args.region.now.list in
    let moved = c.in_ok-moved.moved.list in
    let same : moved ≡ rs = c.in_ok-moved.ensures in
    let on_moved = let P : List Rect → Type 0 = LiesOn longest_side longest_side in subst P (sym same) c.requires in
    let near = sym c.leads_off.ensures ∙ c.if-leads_off.false in
    moved_places moved rs c.offset.new.self.list c.args.offset.0 c.args.offset.1 _ _ same is_dx is_dy
    (ok_holds c.offset.result _ (c.offset.ensures.accepted (near_stays moved _ _ c.list_is_canonical.ensures on_moved (ap (λ a. is_far_by a || is_far_by (to_z w32 (of_z w32 c.args.offset.1))) is_dx ∙ ap (λ b. is_far_by c.args.offset.0 || is_far_by b) is_dy ∙ near))) c.offset.ensures.ok) x y
