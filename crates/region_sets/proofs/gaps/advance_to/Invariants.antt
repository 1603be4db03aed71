use Rattle.std.specs.Prelude.{length}
use Rattle.region_sets.specs.Sets.{EndBy}
use Rattle.region_sets.specs.Room.{GapMoved}
use Rattle.region_sets.proofs.gaps.advance_to.Given as goal

abbrev pub invariant-bands : goal.invariant-bands
invariant-bands l = GapMoved l.fn.bands l.bands × EndBy l.y l.bands.above

abbrev pub decreases-bands : goal.decreases-bands
decreases-bands l = length l.bands.below
