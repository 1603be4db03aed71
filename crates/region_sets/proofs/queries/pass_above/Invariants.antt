use Rattle.std.specs.Prelude.{length}
use Rattle.region_sets.proofs.BandLemmas.{Passed}
use Rattle.region_sets.proofs.queries.pass_above.Given as goal

abbrev pub invariant-bands : goal.invariant-bands
invariant-bands l = Passed l.y l.fn.bands l.bands

abbrev pub decreases-bands : goal.decreases-bands
decreases-bands l = length l.bands.bands
