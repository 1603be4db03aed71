use Rattle.std.specs.Prelude.{length}
use Rattle.region_sets.proofs.BoundsLemmas.{Joining}
use Rattle.region_sets.proofs.queries.bounds_with.Given as goal

abbrev pub invariant-loop-next : goal.invariant-loop-next
invariant-loop-next l = Joining l.fn.given l.fn.bands l.bands l.bounds

abbrev pub decreases-loop-next : goal.decreases-loop-next
decreases-loop-next l = length l.bands.bands
