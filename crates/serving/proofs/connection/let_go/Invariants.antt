use Rattle.std.proofs.Common.{◌≡◌}
use Rattle.serving.proofs.connection.let_go.Given as goal

abbrev pub invariant-loop : goal.invariant-loop
invariant-loop g l = l.seat.queue ≡ l.ends.queue
