use Rattle.std.specs.Prelude.{length}
use Rattle.region_sets.specs.Room.{GapMoved}
use Rattle.region_sets.proofs.gaps.retreat_to.Given as goal

abbrev pub invariant-bands : goal.invariant-bands
invariant-bands l = GapMoved l.fn.bands l.bands

abbrev pub decreases-bands : goal.decreases-bands
decreases-bands l = length l.bands.above
