use Rattle.std.specs.Prelude.{◌+◌}
use Rattle.region_sets.specs.StripLemmas.{edges_left}
use Rattle.region_sets.proofs.StayLemmas.{Kept}
use Rattle.region_sets.proofs.keep_bands.Given as goal

abbrev pub invariant-loop-strip : goal.invariant-loop-strip
invariant-loop-strip l = Kept l.keep l.fn.bands l.bands l.fn.other l.other l.top

abbrev pub decreases-loop-strip : goal.decreases-loop-strip
decreases-loop-strip l = edges_left l.top l.bands.below + edges_left l.top l.other.bands
