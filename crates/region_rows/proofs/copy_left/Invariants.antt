use Rattle.std.specs.Prelude.{length}
use Rattle.region_rows.proofs.MakeLemmas.{Copied}
use Rattle.region_rows.proofs.copy_left.Given as goal

abbrev pub invariant-loop-interval : goal.invariant-loop-interval
invariant-loop-interval l = Copied l.fn.bands l.bands

abbrev pub decreases-loop-interval : goal.decreases-loop-interval
decreases-loop-interval l = length l.bands.left
