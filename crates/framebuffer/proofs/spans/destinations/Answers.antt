use Rattle.std.proofs.Common.{List, pos, to_z, of_z, ◌&&◌, ap, ◌∙◌}
use Rattle.std.specs.Prelude.{FitsSigned, ◌-ℤ◌}
use Rattle.std.specs.Int.{w32}
use Rattle.std.proofs.lemmas.Int.{to_z-of_z}
use Rattle.std.proofs.lemmas.List.{take_all}
use mathlib.Core.Path.{fun_ext}
use Rattle.region.specs.declared.Rect.{Rect}
use Rattle.region.specs.Region.{in_rect, on_screen}
use Rattle.region.specs.Places.{cut_destination}
use Rattle.framebuffer.specs.Picture.{places_in}
use Rattle.framebuffer.proofs.PieceLemmas.{ArePieces, no_pieces, more_pieces}
use Rattle.framebuffer.proofs.spans.destinations.Goals as goal

pub loop-rect-init : goal.loop-rect-init
loop-rect-init c = no_pieces c.args.width c.args.height _ _ c.in_ok-pieces.ensures.items

pub loop-rect-preserved : goal.loop-rect-preserved
loop-rect-preserved c =
    let piece = c.destination-piece.result in
    more_pieces c.args.width c.args.height _ c.args.rects.now c.loop-rect.rect-index (record { x1 = pos 0; y1 = pos 0; x2 = pos 0; y2 = pos 0 }) piece c.loop-rect.pieces.items _ c.loop-rect-test.true
    (λ x y. c.destination-piece.ensures.places x y ∙ ap (λ r. in_rect r x y && on_screen c.args.width c.args.height x y && on_screen c.args.width c.args.height (x -ℤ to_z w32 (of_z w32 c.args.dx)) (y -ℤ to_z w32 (of_z w32 c.args.dy))) c.straight.ensures)
    c.destination-piece.ensures.inside c.destination-piece.ensures.source c.in_ok-push_piece.ensures c.loop-rect.invariant

pub returns-clause-places : goal.returns-clause-places
returns-clause-places c =
    let dx : FitsSigned w32 c.args.dx = c.ranges.dx in
    let dy : FitsSigned w32 c.args.dy = c.ranges.dy in
    let done : ArePieces c.args.width c.args.height (c.args.dx, c.args.dy) _ c.loop-rect.pieces.items = simp to_z-of_z at c.loop-rect.invariant in
    fun_ext (λ x. fun_ext (λ y. done.places x y ∙ ap (λ (rs : List Rect). cut_destination c.args.width c.args.height (places_in rs) (c.args.dx, c.args.dy) x y) (take_all c.loop-rect.rect-index c.args.rects.now c.loop-rect-test.false)))

pub returns-clause-inside : goal.returns-clause-inside
returns-clause-inside c = c.loop-rect.invariant.inside

pub returns-clause-sources : goal.returns-clause-sources
returns-clause-sources c =
    let dx : FitsSigned w32 c.args.dx = c.ranges.dx in
    let dy : FitsSigned w32 c.args.dy = c.ranges.dy in
    simp to_z-of_z at c.loop-rect.invariant.sources
