use Rattle.std.proofs.Common.{length}
use Rattle.key_set.specs.Among.{IsFlagged}
use Rattle.key_set.proofs.take_all.Given as goal

abbrev pub invariant-loop-key : goal.invariant-loop-key
invariant-loop-key l = IsFlagged l.flags.items l.keys.items

abbrev pub decreases-loop-key : goal.decreases-loop-key
decreases-loop-key l = length l.keys.items
