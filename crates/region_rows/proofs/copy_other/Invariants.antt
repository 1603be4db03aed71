use Rattle.std.specs.Prelude.{length}
use Rattle.region_rows.proofs.MakeLemmas.{CopiedOther}
use Rattle.region_rows.proofs.copy_other.Given as goal

abbrev pub invariant-loop-interval : goal.invariant-loop-interval
invariant-loop-interval l = CopiedOther l.fn.bands l.bands l.fn.other l.other

abbrev pub decreases-loop-interval : goal.decreases-loop-interval
decreases-loop-interval l = length l.other.left
