use Rattle.std.specs.Prelude.{length, ◌+◌}
use Rattle.region_sets.proofs.BandLemmas.{Comparing}
use Rattle.region_sets.proofs.queries.meets.Given as goal

abbrev pub invariant-loop-edge : goal.invariant-loop-edge
invariant-loop-edge l = Comparing l.fn.first l.fn.second l.first l.second

abbrev pub decreases-loop-edge : goal.decreases-loop-edge
decreases-loop-edge l = length l.first.bands + length l.second.bands
