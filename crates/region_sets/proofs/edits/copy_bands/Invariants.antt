use Rattle.std.specs.Prelude.{length}
use Rattle.region_sets.proofs.CopyLemmas.{Copied}
use Rattle.region_sets.proofs.edits.copy_bands.Given as goal

abbrev pub invariant-loop-rows : goal.invariant-loop-rows
invariant-loop-rows l = Copied l.fn.to l.to l.fn.from l.from

abbrev pub decreases-loop-rows : goal.decreases-loop-rows
decreases-loop-rows l = length l.from.bands
