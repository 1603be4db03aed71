use Rattle.std.specs.Prelude.{length}
use Rattle.region_sets.proofs.MoveLemmas.{Shifting}
use Rattle.region_sets.proofs.edits.offset.Given as goal

abbrev pub invariant-loop-rows : goal.invariant-loop-rows
invariant-loop-rows l = Shifting l.dx l.dy l.fn.bands l.bands

abbrev pub decreases-loop-rows : goal.decreases-loop-rows
decreases-loop-rows l = length l.bands.below
