use Rattle.std.proofs.Common.{◌≡◌}
use Rattle.input_queue.proofs.ends.InputEnds.take_wait.Given as goal

abbrev pub invariant-loop : goal.invariant-loop
invariant-loop g l = l.taker ≡ l.fn.taker
