use Rattle.std.proofs.Common.{map}
use Rattle.source_pixels.specs.RowLemmas.{Gathers}
use Rattle.source_pixels.proofs.rows.are_same.Given as goal

abbrev pub invariant-loop-x : goal.invariant-loop-x
invariant-loop-x g l = Gathers (map (g.C.Colours.colour_of l.colours) l.pixels) l.row l.other l.x
