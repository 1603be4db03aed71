use Rattle.std.proofs.Common.{ap}
use Rattle.input_queue.proofs.Moves.{gives_back}
use Rattle.input_queue.proofs.hub.give_back.Goals as goal

pub absorb-requires-clause-rule : goal.absorb-requires-clause-rule
absorb-requires-clause-rule c = gives_back _ _ _ _ (ap (λ v. v.takes) c.requires.taker) (ap (λ v. v.makes) c.requires.taker) (ap (λ v. v.puts) c.seat.invariant.1)
