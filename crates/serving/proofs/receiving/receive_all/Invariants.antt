use Rattle.std.proofs.Common.{◌≡◌}
use Rattle.serving.proofs.receiving.receive_all.Given as goal

abbrev pub invariant-loop : goal.invariant-loop
invariant-loop g l = (l.maker.queue ≡ l.server.ends.now.queue) × (l.guests.limit ≡ l.fn.guests.limit)
