use Rattle.std.specs.Prelude.{length}
use Rattle.region_sets.proofs.RowLemmas.{Ending}
use Rattle.region_sets.proofs.rows.last_end.Given as goal

abbrev pub invariant-loop-interval : goal.invariant-loop-interval
invariant-loop-interval l = Ending l.x l.fn.bands l.bands l.end

abbrev pub decreases-loop-interval : goal.decreases-loop-interval
decreases-loop-interval l = length l.bands.left
