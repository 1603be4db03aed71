use Rattle.std.proofs.Common.{ℕ, ◌-◌, ◌+◌, ap, ◌∙◌, arith}
use Rattle.source_pixels.specs.Source.{colours_at}
use Rattle.source_pixels.proofs.PieceLemmas.{row_written, all_written, part_long}
use Rattle.source_pixels.proofs.source.PixelSource.copy_band.Goals as goal

pub loop-row-preserved : goal.loop-row-preserved
loop-row-preserved c =
    let columns : ℕ = c.args.band.to - c.args.band.from in
    let rows : ℕ = c.args.band.bottom - c.args.band.top in
    let e = c.copy_colours.ensures in
    row_written c.args.self.now c.args.band.from c.args.band.top columns rows c.loop-row.row c.loop-row.colours c.copy_colours.new.places _ (omega arith) c.loop-row-test.true c.loop-row.invariant
    (e ∙ ap (colours_at c.args.self.now c.args.band.from (c.args.band.top + c.loop-row.row)) (part_long columns rows c.loop-row.row c.loop-row.colours c.loop-row-test.true c.loop-row.invariant.long))

pub returns : goal.returns
returns c =
    all_written c.args.self.now c.args.band.from c.args.band.top (c.args.band.to - c.args.band.from) (c.args.band.bottom - c.args.band.top) c.loop-row.row c.loop-row.colours (omega arith) c.loop-row.invariant
