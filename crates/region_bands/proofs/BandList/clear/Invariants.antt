use Rattle.std.proofs.Common.{length}
use Rattle.region_bands.proofs.ClearLemmas.{Clearing}
use Rattle.region_bands.proofs.BandList.clear.Given as goal

-- the first bands are gone
abbrev pub invariant-bands : goal.invariant-bands
invariant-bands l = Clearing l.fn.self l.self

abbrev pub decreases-bands : goal.decreases-bands
decreases-bands l = length l.self.below
