use Rattle.std.specs.Prelude.{length}
use Rattle.region_sets.proofs.BandLemmas.{Counting}
use Rattle.region_sets.proofs.queries.count_all.Given as goal

abbrev pub invariant-loop-bands : goal.invariant-loop-bands
invariant-loop-bands l = Counting l.each l.fn.bands l.bands l.count

abbrev pub decreases-loop-bands : goal.decreases-loop-bands
decreases-loop-bands l = length l.bands.bands
