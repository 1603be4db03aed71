use Rattle.std.proofs.Common.{ap}
use Rattle.input_queue.proofs.Moves.{takes, learns_reached}
use Rattle.input_queue.proofs.hub.take_all.Goals as goal

pub pop_as-requires-clause-rule : goal.pop_as-requires-clause-rule
pop_as-requires-clause-rule g c =
    let is = c.loop.invariant.1 in
    let t = ap (λ v. v.takes) is in
    let m = ap (λ v. v.makes) is in
    (takes _ _ t m, learns_reached _ _ t m)
