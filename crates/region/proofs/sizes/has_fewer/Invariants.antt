use Rattle.std.specs.Prelude.{length}
use Rattle.region.proofs.SizeLemmas.{ReadAlike}
use Rattle.region.proofs.sizes.has_fewer.Given as goal

abbrev pub invariant-bands : goal.invariant-bands
invariant-bands l = ReadAlike l.fn.first l.fn.second l.first l.second

abbrev pub decreases-bands : goal.decreases-bands
decreases-bands l = length l.first.bands
