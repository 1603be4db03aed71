use Rattle.std.specs.Prelude.{◌≡◌}
use Rattle.test_update_sender_runs.proofs.tests.queue.put_all.Given as goal

abbrev pub invariant-loop : goal.invariant-loop
invariant-loop g l = l.seat.queue ≡ l.initial.seat.queue
