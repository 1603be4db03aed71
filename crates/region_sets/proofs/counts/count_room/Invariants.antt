use Rattle.std.specs.Prelude.{◌+◌}
use Rattle.region_sets.specs.StripLemmas.{edges_left}
use Rattle.region_sets.specs.RoomLemmas.{Counted}
use Rattle.region_sets.proofs.counts.count_room.Given as goal

abbrev pub invariant-loop-strip : goal.invariant-loop-strip
invariant-loop-strip l = Counted l.keep l.fn.first l.fn.second l.first l.second l.top l.count

abbrev pub decreases-loop-strip : goal.decreases-loop-strip
decreases-loop-strip l = edges_left l.top l.first.bands + edges_left l.top l.second.bands
