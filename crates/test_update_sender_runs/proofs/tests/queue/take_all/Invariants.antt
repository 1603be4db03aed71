use Rattle.std.specs.Prelude.{◌≡◌}
use Rattle.test_update_sender_runs.proofs.tests.queue.take_all.Given as goal

abbrev pub invariant-loop : goal.invariant-loop
invariant-loop g l = l.taker.queue ≡ l.initial.taker.queue
