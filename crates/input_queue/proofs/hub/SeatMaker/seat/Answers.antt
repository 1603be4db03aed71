use Rattle.std.proofs.Common.{ap}
use Rattle.input_queue.proofs.Moves.{makes}
use Rattle.input_queue.proofs.hub.SeatMaker.seat.Goals as goal

pub another-pass-requires-clause-rule : goal.another-pass-requires-clause-rule
another-pass-requires-clause-rule c = makes _ _ (ap (λ v. v.makes) c.self.invariant.1) (ap (λ v. v.takes) c.self.invariant.1)
