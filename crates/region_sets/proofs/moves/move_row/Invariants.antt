use Rattle.std.specs.Prelude.{length}
use Rattle.region_sets.proofs.MoveLemmas.{Moving}
use Rattle.region_sets.proofs.moves.move_row.Given as goal

abbrev pub invariant-loop-interval : goal.invariant-loop-interval
invariant-loop-interval l = Moving l.dx l.fn.bands l.bands

abbrev pub decreases-loop-interval : goal.decreases-loop-interval
decreases-loop-interval l = length l.bands.left
