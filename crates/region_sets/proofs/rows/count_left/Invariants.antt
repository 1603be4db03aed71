use Rattle.std.specs.Prelude.{length}
use Rattle.region_sets.proofs.RowLemmas.{Counting}
use Rattle.region_sets.proofs.rows.count_left.Given as goal

abbrev pub invariant-loop-count : goal.invariant-loop-count
invariant-loop-count l = Counting l.fn.bands l.bands l.count

abbrev pub decreases-loop-count : goal.decreases-loop-count
decreases-loop-count l = length l.bands.left
