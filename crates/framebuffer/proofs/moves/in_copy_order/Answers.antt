use Rattle.std.proofs.Common.{◌∙◌, rules}
use Rattle.std.specs.Prelude.{FitsSigned}
use Rattle.std.specs.Int.{w32}
use Rattle.std.proofs.lemmas.Int.{to_z-of_z}
use Rattle.region.specs.PlaceLemmas.{all-in_range}
use Rattle.framebuffer.proofs.MoveLemmas.{ordered-places, ordered-inside, ordered-sources, ordered-order}
use Rattle.framebuffer.proofs.moves.in_copy_order.Goals as goal

pub from_rects_in_range-requires : goal.from_rects_in_range-requires
from_rects_in_range-requires c = all-in_range c.args.pieces.now c.requires

pub returns-clause-places : goal.returns-clause-places
returns-clause-places c =
    let dx : FitsSigned w32 c.args.offset.0 = search rules in
    let dy : FitsSigned w32 c.args.offset.1 = search rules in
    let region = c.in_ok-region.region.list in
    ordered-places c.args.offset c.args.pieces.now region c.into_vec.result.items (record { canonical = c.in_ok-rects.ensures.canonical; places = c.in_ok-region.ensures; same = c.into_vec.ensures ∙ simp to_z-of_z at c.in_ok-rects.ensures.order })

pub returns-clause-inside : goal.returns-clause-inside
returns-clause-inside c =
    let dx : FitsSigned w32 c.args.offset.0 = search rules in
    let dy : FitsSigned w32 c.args.offset.1 = search rules in
    let region = c.in_ok-region.region.list in
    ordered-inside c.args.offset c.args.pieces.now region c.into_vec.result.items (record { canonical = c.in_ok-rects.ensures.canonical; places = c.in_ok-region.ensures; same = c.into_vec.ensures ∙ simp to_z-of_z at c.in_ok-rects.ensures.order })

pub returns-clause-sources : goal.returns-clause-sources
returns-clause-sources c =
    let dx : FitsSigned w32 c.args.offset.0 = search rules in
    let dy : FitsSigned w32 c.args.offset.1 = search rules in
    let region = c.in_ok-region.region.list in
    ordered-sources c.args.offset c.args.pieces.now region c.into_vec.result.items (record { canonical = c.in_ok-rects.ensures.canonical; places = c.in_ok-region.ensures; same = c.into_vec.ensures ∙ simp to_z-of_z at c.in_ok-rects.ensures.order })

pub returns-clause-ordered : goal.returns-clause-ordered
returns-clause-ordered c =
    let dx : FitsSigned w32 c.args.offset.0 = search rules in
    let dy : FitsSigned w32 c.args.offset.1 = search rules in
    let region = c.in_ok-region.region.list in
    ordered-order c.args.offset c.args.pieces.now region c.into_vec.result.items (record { canonical = c.in_ok-rects.ensures.canonical; places = c.in_ok-region.ensures; same = c.into_vec.ensures ∙ simp to_z-of_z at c.in_ok-rects.ensures.order })
