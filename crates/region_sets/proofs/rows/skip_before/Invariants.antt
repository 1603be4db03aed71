use Rattle.std.specs.Prelude.{length}
use Rattle.region_sets.proofs.RowLemmas.{Skipped}
use Rattle.region_sets.proofs.rows.skip_before.Given as goal

abbrev pub invariant-intervals : goal.invariant-intervals
invariant-intervals l = Skipped l.x l.fn.bands l.bands

abbrev pub decreases-intervals : goal.decreases-intervals
decreases-intervals l = length l.bands.left
