use Rattle.std.proofs.Common.{refl, sym, ap, ◌∙◌, rules, arith}
use Rattle.connection.specs.Known.{Known}
use Rattle.connection.specs.Connection.{ViewerConnection}
use Rattle.connections.proofs.Turns.{turn-then, turn-written}
use Rattle.connection.specs.BoundsLemmas.{one-write}
use Rattle.connections.proofs.turn.send_some.Goals as goal

pub loop-writes-preserved : goal.loop-writes-preserved
loop-writes-preserved g c =
    let w = c.write.ensures.sent in
    let e = c.prepare.new.connection in
    let known : Known = record e.known { may_write = c.write.new.self.known.may_write } in
    record {
      turn = turn-then _ _ _ _ _ _ (turn-then _ _ _ _ _ _ c.loop-writes.invariant.turn c.prepare.ensures.turn)
          (turn-written c.prepare.new.canvas c.prepare.new.canvas e c.write.new.self known w.0 w.1 refl (c.prepare.ensures.whole (search rules)) c.write.ensures.same refl refl w.2 w.3 w.4 c.write.ensures.few);
      drawn = c.prepare.ensures.drawn ∙ c.loop-writes.invariant.drawn;
      asks = λ ask. c.loop-writes.invariant.asks (c.prepare.ensures.asks (sym (ap (λ (x : ViewerConnection). x.known.may_ask) c.write.ensures.same) ∙ ask));
      bound = one-write c.loop-writes._writes _ c.args.connection.now.carried c.loop-writes.connection.carried c.prepare.new.connection.carried c.write.new.self.carried c.loop-writes.invariant.bound c.prepare.ensures.carried c.write.ensures.bound (omega (arith));
    }
