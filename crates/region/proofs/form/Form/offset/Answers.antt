use Rattle.std.proofs.Common.{◌++◌, ◌∙◌, ap, sym, to_z, of_z, Some}
use Rattle.std.specs.Prelude.{FitsSigned, ◌+ℤ◌}
use Rattle.std.specs.Int.{w32}
use Rattle.std.proofs.lemmas.Int.{to_z-of_z}
use Rattle.std.proofs.lemmas.List.{append-nil}
use Rattle.region.specs.declared.form.Form.TheVariants.{Plain}
use Rattle.region.specs.Region.{in_rect, covers}
use Rattle.region.specs.RegionView.{moved_rect, leaves_range}
use Rattle.region.specs.Rects.{rects_in}
use Rattle.region_sets.specs.Sets.{has}
use Rattle.region.proofs.form.Form.offset.Goals as goal
use Rattle.region.proofs.RangeLemmas.{bands_movable}
use Rattle.region.proofs.BandRectLemmas.{covers_has}
use Rattle.region.proofs.FormLemmas.{plain_covers, form_plain, plain_stays, moved_has, linked_with_room, linked_bands}

pub moved-requires : goal.moved-requires
moved-requires c =
    let x : FitsSigned w32 c.args.dx = c.ranges.dx in
    let y : FitsSigned w32 c.args.dy = c.ranges.dy in
    simp to_z-of_z (plain_stays c.args.dx c.args.dy c.args.self.now c.in-Plain-Some.field-0 c.in-Plain-Some.rect c.in-Plain-Some.is c.in-Plain-Some.field-0-is c.requires.stays)

pub offset-requires-clause-movable : goal.offset-requires-clause-movable
offset-requires-clause-movable c =
    let x : FitsSigned w32 c.args.dx = c.ranges.dx in
    let y : FitsSigned w32 c.args.dy = c.ranges.dy in
    simp to_z-of_z (bands_movable c.args.dx c.args.dy (c.deref_mut.result.now.bands.above ++ c.deref_mut.result.now.bands.below) (linked_with_room c.args.self.now c.in-Linked.own c.in-Linked.is c.deref_mut.result.now c.deref_mut.ensures.value c.requires.form).bands
    (ap (λ l. leaves_range c.args.dx c.args.dy (rects_in l)) (linked_bands c.args.self.now c.in-Linked.own c.in-Linked.is c.deref_mut.result.now c.deref_mut.ensures.value) ∙ c.requires.stays))

pub returns-in-Plain-Some-clause-places : goal.returns-in-Plain-Some-clause-places
returns-in-Plain-Some-clause-places c = λ x y.
    let right : FitsSigned w32 c.args.dx = c.ranges.dx in
    let down : FitsSigned w32 c.args.dy = c.ranges.dy in
    plain_covers (Some c.moved.result) (x +ℤ c.args.dx) (y +ℤ c.args.dy)
    ∙ ap (λ r. in_rect r (x +ℤ c.args.dx) (y +ℤ c.args.dy)) (c.moved.ensures
    ∙ ap (λ d. moved_rect d (to_z w32 (of_z w32 c.args.dy)) c.in-Plain-Some.rect) (to_z-of_z w32 c.args.dx right)
    ∙ ap (λ d. moved_rect c.args.dx d c.in-Plain-Some.rect) (to_z-of_z w32 c.args.dy down))
    ∙ moved_has c.args.dx c.args.dy c.in-Plain-Some.rect x y
    ∙ sym (form_plain c.args.self.now (Some c.in-Plain-Some.rect) x y (c.in-Plain-Some.is ∙ ap Plain c.in-Plain-Some.field-0-is))

pub returns-in-Linked-clause-places : goal.returns-in-Linked-clause-places
returns-in-Linked-clause-places c = λ x y.
    let fits_x : FitsSigned w32 c.args.dx = c.ranges.dx in
    let fits_y : FitsSigned w32 c.args.dy = c.ranges.dy in
    covers_has (c.offset.new.bands.above ++ c.offset.new.bands.below) (x +ℤ c.args.dx) (y +ℤ c.args.dy)
    ∙ ap (λ l. has (c.offset.new.bands.above ++ l) (x +ℤ c.args.dx) (y +ℤ c.args.dy)) (ap (λ b. b.below) c.offset.ensures.moved)
    ∙ ap (λ l. has l (x +ℤ c.args.dx) (y +ℤ c.args.dy)) (append-nil c.offset.new.bands.above)
    ∙ ap (λ d. has c.offset.new.bands.above (x +ℤ d) (y +ℤ c.args.dy)) (sym (to_z-of_z w32 c.args.dx fits_x))
    ∙ ap (λ d. has c.offset.new.bands.above (x +ℤ to_z w32 (of_z w32 c.args.dx)) (y +ℤ d)) (sym (to_z-of_z w32 c.args.dy fits_y))
    ∙ c.offset.ensures.has x y
    ∙ sym (covers_has (c.deref_mut.result.now.bands.above ++ c.deref_mut.result.now.bands.below) x y)
    ∙ ap (λ l. covers (rects_in l) x y) (linked_bands c.args.self.now c.in-Linked.own c.in-Linked.is c.deref_mut.result.now c.deref_mut.ensures.value)
