use Rattle.std.proofs.Common.{ap, refl, ◌∙◌}
use Rattle.held_inputs.specs.Held.{changed}
use Rattle.input_queue.proofs.Moves.{puts, learns_held, seat_kept}
use Rattle.input_queue.proofs.Holding.{by-more}
use Rattle.input_queue.proofs.ends.InputEnds.put.Goals as goal

pub push_as-requires-clause-rule : goal.push_as-requires-clause-rule
push_as-requires-clause-rule g c = let is = ap (λ v. v.puts) c.seat.invariant.1 in (puts _ _ _ _ is, learns_held _ _ is)

pub invariant_of-seat : goal.invariant_of-seat
invariant_of-seat g c =
    let i = c.seat.invariant in
    let k = seat_kept _ _ _ _ _ _ c.push_as.ensures.rule i.1 refl i.2 in
    (c.push_as.ensures.queue.2 ∙ i.0, k.0, k.1, c.change.ensures ∙ ap (changed c.seat.inside.held) c.of-change.ensures ∙ by-more _ _ _ _ i.3 (ap (λ v. v.accepted) c.in-Ok.ensures.rule))
