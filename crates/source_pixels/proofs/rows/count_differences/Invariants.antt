use Rattle.std.proofs.Common.{◌≡◌, map}
use Rattle.source_pixels.specs.Rows.{difference_count}
use Rattle.source_pixels.proofs.rows.count_differences.Given as goal

abbrev pub invariant-loop-x : goal.invariant-loop-x
invariant-loop-x g l = l.places ≡ difference_count (map (g.C.Colours.colour_of l.colours) l.pixels) l.row l.x
