use Rattle.std.specs.Prelude.{length}
use Rattle.region.proofs.sizes.has_few.Given as goal

abbrev pub decreases-bands : goal.decreases-bands
decreases-bands l = length l.first.bands
