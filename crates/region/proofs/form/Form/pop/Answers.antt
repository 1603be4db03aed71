use Rattle.std.proofs.Common.{ℕ, List, ◌++◌, ◌∙◌, ap, refl, sym}
use Rattle.region_bands.specs.Bands.{Band}
use Rattle.region.specs.RegionView.{RegionView}
use Rattle.region.specs.Rects.{rects_in}
use Rattle.region.specs.Forms.{bands_in}
use Rattle.region.proofs.form.Form.pop.Goals as goal
use Rattle.region.proofs.CallLemmas.{boxed_none}
use Rattle.region.proofs.PopLemmas.{is_first, is_without}
use Rattle.region.proofs.FormLemmas.{linked_with_room, linked_bands, linked_room, not_found}

abbrev view_with : ℕ → List Band → RegionView
view_with room bands = record { list = rects_in bands; room = room }

pub returns-in-Linked-clause-none : goal.returns-in-Linked-clause-none
returns-in-Linked-clause-none c =
    boxed_none (c.deref_mut.result.now.bands.above ++ c.deref_mut.result.now.bands.below) c.pop.result c.rect_of_bounds.result _ (linked_with_room c.args.self.now c.in-Linked.own c.in-Linked.is c.deref_mut.result.now c.deref_mut.ensures.value c.requires).bands
    (ap rects_in (linked_bands c.args.self.now c.in-Linked.own c.in-Linked.is c.deref_mut.result.now c.deref_mut.ensures.value)) c.pop.ensures.none c.rect_of_bounds.ensures

pub returns-in-Linked-clause-unchanged : goal.returns-in-Linked-clause-unchanged
returns-in-Linked-clause-unchanged c = λ none.
    let found = not_found c.pop.result c.rect_of_bounds.result c.rect_of_bounds.ensures none in
    let was = c.pop.ensures.none.0 found in
    let is = c.pop.ensures.unchanged found in
    ap (view_with c.deref_mut.result.now.room) is ∙ ap (view_with c.deref_mut.result.now.room) (sym was)
    ∙ ap (view_with c.deref_mut.result.now.room) (linked_bands c.args.self.now c.in-Linked.own c.in-Linked.is c.deref_mut.result.now c.deref_mut.ensures.value)
    ∙ ap (λ n. view_with n (bands_in c.args.self.now)) (linked_room c.args.self.now c.in-Linked.own c.in-Linked.is c.deref_mut.result.now c.deref_mut.ensures.value)

pub returns-in-Linked-clause-first : goal.returns-in-Linked-clause-first
returns-in-Linked-clause-first c =
    is_first c.args.reverse_x c.args.reverse_y (c.deref_mut.result.now.bands.above ++ c.deref_mut.result.now.bands.below) _ c.pop.result c.rect_of_bounds.result (linked_with_room c.args.self.now c.in-Linked.own c.in-Linked.is c.deref_mut.result.now c.deref_mut.ensures.value c.requires).bands
    (ap rects_in (linked_bands c.args.self.now c.in-Linked.own c.in-Linked.is c.deref_mut.result.now c.deref_mut.ensures.value)) c.pop.ensures.popped c.rect_of_bounds.ensures

pub returns-in-Linked-clause-places : goal.returns-in-Linked-clause-places
returns-in-Linked-clause-places c =
    is_without (c.deref_mut.result.now.bands.above ++ c.deref_mut.result.now.bands.below) (c.pop.new.bands.above ++ c.pop.new.bands.below) _ _ c.pop.result c.rect_of_bounds.result
    (ap rects_in (linked_bands c.args.self.now c.in-Linked.own c.in-Linked.is c.deref_mut.result.now c.deref_mut.ensures.value)) refl c.pop.ensures.has c.rect_of_bounds.ensures
