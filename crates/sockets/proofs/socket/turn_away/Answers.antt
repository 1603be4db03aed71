use Rattle.std.proofs.Common.{ℕ, List, take, drop, ap, ◌∙◌}
use Rattle.turned_away.specs.Refusal.{refusal, reason}
use Rattle.sockets.proofs.WriteLemmas.{in_two_writes}
use Rattle.sockets.proofs.socket.turn_away.Goals as goal

pub returns-in-Ok : goal.returns-in-Ok
returns-in-Ok g c = record {
  said = in_two_writes (g.T.Transport.written c.args.transport.now) (g.T.Transport.written c.send.new.self) (g.T.Transport.written c.send-2.new.self)
      (refusal reason) c.split_at.result.0.now c.split_at.result.1.now 12 c.in_ok-taken.taken c.in-Ok.further
      (c.split_at.ensures.front ∙ ap (λ (l : List ℕ). take 12 l) c.refusal-said.ensures)
      (c.split_at.ensures.back ∙ ap (λ (l : List ℕ). drop 12 l) c.refusal-said.ensures) c.split_at.ensures.front_len c.if-taken-version.false c.in_ok-taken.ensures.bound
      c.in_ok-taken.ensures.bytes c.in-Ok.ensures.bytes;
}
