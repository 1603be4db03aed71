use Rattle.std.proofs.Common.{ap}
use Rattle.input_queue.proofs.Moves.{takes, learns_reached}
use Rattle.input_queue.proofs.ends.InputEnds.take.Goals as goal

pub pop_as-requires-clause-rule : goal.pop_as-requires-clause-rule
pop_as-requires-clause-rule g c = let t = ap (λ v. v.takes) c.taker.invariant.1 in let m = ap (λ v. v.makes) c.taker.invariant.1 in (takes _ _ t m, learns_reached _ _ t m)
