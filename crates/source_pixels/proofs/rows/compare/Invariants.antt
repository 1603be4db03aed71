use Rattle.std.proofs.Common.{◌*◌, map}
use Rattle.source_pixels.specs.RowLemmas.{DifferTo}
use Rattle.source_pixels.proofs.rows.compare.Given as goal

abbrev pub invariant-loop-block : goal.invariant-loop-block
invariant-loop-block g l = DifferTo (map (g.C.Colours.colour_of l.colours) l.pixels) l.row (l.block * 64) l.difference
