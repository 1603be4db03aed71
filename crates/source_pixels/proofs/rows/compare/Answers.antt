use Rattle.std.proofs.Common.{◌≡◌, ◌+◌, ◌*◌, ◌/◌, None, length, map, sym, subst, arith}
use Rattle.source_pixels.specs.RowLemmas.{DifferTo, differ_slice, slice_fits, differ_all}
use Rattle.source_pixels.proofs.rows.compare.Goals as goal
use Rattle.source_pixels.proofs.rows.compare.Goals.{then-not-are_same, else-not-are_same}

pub with_block-difference-requires-clause-few : goal.with_block-difference-requires-clause-few
with_block-difference-requires-clause-few g c =
    (slice_fits (g.C.Colours.colour_of c.args.colours.now) c.args.pixels.now c.args.row.now (c.loop-block.block * 64) (c.loop-block.block * 64 + 64) (omega arith) (omega arith)
    c.loop-block.difference c.compare_block-found.result (omega arith) c.loop-block.invariant c.compare_block-found.ensures).1

pub with_block-requires-clause-few : goal.with_block-requires-clause-few
with_block-requires-clause-few g c =
    let last : c.loop-block.block ≡ length c.args.row.now / 64 = omega arith in
    (slice_fits (g.C.Colours.colour_of c.args.colours.now) c.args.pixels.now c.args.row.now (length c.args.row.now / 64 * 64) (length c.args.row.now) (omega arith) (omega arith)
    c.loop-block.difference c.compare_block-rest.result (omega arith) (rw last at c.loop-block.invariant) c.compare_block-rest.ensures).1

pub loop-block-preserved : goal.loop-block-preserved
loop-block-preserved g c =
    let f = g.C.Colours.colour_of c.args.colours.now in
    let next : c.loop-block.block * 64 + 64 ≡ (c.loop-block.block + 1) * 64 = omega arith in
    subst (λ to. DifferTo (map f c.args.pixels.now) c.args.row.now to c.if-not-are_same.difference) next
    (elim c.if-not-are_same.branch [
      | then-not-are_same w ↦ subst (DifferTo (map f c.args.pixels.now) c.args.row.now (c.loop-block.block * 64 + 64)) (sym w.difference-is)
          (subst (DifferTo (map f c.args.pixels.now) c.args.row.now (c.loop-block.block * 64 + 64)) (sym w.with_block-difference.ensures)
          (differ_slice f c.args.pixels.now c.args.row.now (c.loop-block.block * 64) (c.loop-block.block * 64 + 64) (omega arith) (omega arith) c.loop-block.difference w.compare_block-found.result c.loop-block.invariant w.compare_block-found.ensures))
      | else-not-are_same w ↦ subst (DifferTo (map f c.args.pixels.now) c.args.row.now (c.loop-block.block * 64 + 64)) (sym w.difference-is)
          (differ_slice f c.args.pixels.now c.args.row.now (c.loop-block.block * 64) (c.loop-block.block * 64 + 64) (omega arith) (omega arith) c.loop-block.difference None c.loop-block.invariant (c.are_same.ensures.0 w.if-not-are_same.false))
    ])

pub returns : goal.returns
returns g c =
    let f = g.C.Colours.colour_of c.args.colours.now in
    let last : c.loop-block.block ≡ length c.args.row.now / 64 = omega arith in
    differ_all (map f c.args.pixels.now) c.args.row.now c.with_block.result
    (subst (DifferTo (map f c.args.pixels.now) c.args.row.now (length c.args.row.now)) (sym c.with_block.ensures)
    (differ_slice f c.args.pixels.now c.args.row.now (length c.args.row.now / 64 * 64) (length c.args.row.now) (omega arith) (omega arith) c.loop-block.difference c.compare_block-rest.result (rw last at c.loop-block.invariant) c.compare_block-rest.ensures))
