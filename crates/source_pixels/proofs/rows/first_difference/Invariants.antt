use Rattle.std.proofs.Common.{map}
use Rattle.source_pixels.specs.Rows.{AreSame}
use Rattle.source_pixels.proofs.rows.first_difference.Given as goal

abbrev pub invariant-loop-x : goal.invariant-loop-x
invariant-loop-x g l = AreSame (map (g.C.Colours.colour_of l.colours) l.pixels) l.row 0 l.x
