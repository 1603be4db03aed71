use Rattle.std.proofs.Common.{length}
use Rattle.span_arena.specs.Arena.{ids_of}
use Rattle.region_bands.specs.Held.{ids_from}
use Rattle.region_bands.proofs.AlikeLemmas.{Alike}
use Rattle.region_bands.proofs.linked.same_intervals.Given as goal

-- the intervals up to the two places are the same
abbrev pub invariant-loop-left : goal.invariant-loop-left
invariant-loop-left l = Alike l.spans l.fn.one l.fn.other l.left l.right

abbrev pub decreases-loop-left : goal.decreases-loop-left
decreases-loop-left l = length (ids_from l.left (ids_of l.spans l.fn.one))
