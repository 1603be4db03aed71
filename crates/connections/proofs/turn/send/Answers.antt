use Rattle.std.proofs.Common.{◌≡◌, ◌*◌, [], false, refl, sym, ap, ◌∙◌, rules, arith}
use Rattle.connection.specs.Known.{Known}
use Rattle.connection.specs.Reasons.{may_write_by}
use Rattle.connection.specs.Connection.{ViewerConnection, breaks_off}
use Rattle.connections.proofs.Turns.{turn-then, turn-flushed}
use Rattle.connection.specs.BoundsLemmas.{writes-then, writes-bounded}
use Rattle.connections.proofs.turn.send.Goals as goal

pub returns-then-may_write : goal.returns-then-may_write
returns-then-may_write g c =
    let e = c.send_some.new.connection in
    let f = c.flush-flushed.new.self in
    let known : Known = record e.known { may_write = may_write_by c.flush-flushed.result e.known.may_write } in
    let same : f ≡ record e { carried = f.carried; ended = f.ended; known = known } =
    c.flush-flushed.ensures.same ∙ ap (λ ended. record e { carried = f.carried; ended = ended; known = known }) (sym (ap (λ (x : ViewerConnection). x.ended) c.flush-flushed.ensures.same)) in
    let whole : breaks_off e.ended ≡ false = search rules in
    record {
      turn = turn-then _ _ _ _ _ _ c.send_some.ensures.turn (turn-flushed c.send_some.new.canvas e f known whole same refl refl c.flush-flushed.ensures.moved);
      asks = λ ask. c.send_some.ensures.asks (sym (ap (λ (x : ViewerConnection). x.known.may_ask) c.flush-flushed.ensures.same) ∙ ask);
      drawn = c.send_some.ensures.drawn;
      bound = writes-then (4 * 65536) 0 c.args.connection.now.carried.written e.carried.written f.carried.written c.send_some.ensures.bound
          (writes-bounded 0 e.carried.written f.carried.written [] c.flush-flushed.ensures.moved.written (omega arith));
    }
