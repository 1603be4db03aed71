use Rattle.std.proofs.Common.{sym, subst}
use Rattle.connections.specs.Serving.{Serving, IsOver, at_key}
use Rattle.connections.proofs.Everyone.{parted}
use Rattle.connections.proofs.connections.Connections.take_departed.Goals as goal

pub returns : goal.returns
returns g c =
    let inside = c.self.inside in
    let e = c.in_ok-connection.connection in
    let d = c.into_departed.result in
    let over = subst (λ (x : Serving). IsOver (at_key x.slots c.in_ok-key.key) c.in_ok-viewer.viewer c.in_ok-viewer.ended) (sym c.self.view_is) c.in_ok-viewer.ensures in
    record {
      served = λ config began list.
          parted config began list c.args.self.now inside.canvas c.close.new.self inside.is_kept inside.next inside.connections c.try_remove.new.self inside.agenda.list inside.asking.list c.remove.new.self.list c.remove-2.new.self.list
          c.in_ok-key.key c.in_ok-viewer.viewer e
          c.in_ok-viewer.ended g.T.Transport.unread g.T.Transport.written d.transport d.held d.receipt c.self.view_is (λ h. c.in-Ok.ensures.step config list h) (λ h. c.in-Ok.ensures.recorded config list h) (λ h. c.in-Ok.ensures.answer config list h) (sym c.in_ok-connection.ensures.value)
          c.try_remove.ensures.updates over c.into_departed.ensures.held c.into_departed.ensures.viewer c.into_departed.ensures.ended c.into_departed.ensures.sent c.into_departed.ensures.counts c.into_departed.ensures.carried c.close.ensures.same c.remove.ensures.others c.remove-2.ensures.others;
    }
