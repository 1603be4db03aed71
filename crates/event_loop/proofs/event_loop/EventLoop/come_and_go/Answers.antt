use Rattle.std.proofs.Common.{sym}
use Rattle.event_loop.proofs.Steps.{on-then, on-from, on-same}
use Rattle.event_loop.proofs.event_loop.EventLoop.come_and_go.Goals as goal

pub returns-in_err-see_to : goal.returns-in_err-see_to
returns-in_err-see_to g c = record { served = on-then _ _ _ (on-same _ _ (sym c.retry.ensures.same)) c.see_to.ensures.served; stands = c.see_to.ensures.stands }

pub returns-in_err-let_go : goal.returns-in_err-let_go
returns-in_err-let_go g c =
    record {
      served = on-then _ _ _ (on-then _ _ _ (on-same _ _ (sym c.retry.ensures.same)) c.see_to.ensures.served)
          (on-from c.see_to.new.self c.self.inside.viewers.connections c.let_go.new.self.connections c.self.view_is c.let_go.ensures.served);
      stands = c.see_to.ensures.stands;
    }

pub returns : goal.returns
returns g c =
    record {
      served = on-then _ _ _ (on-then _ _ _ (on-same _ _ (sym c.retry.ensures.same)) c.see_to.ensures.served)
          (on-from c.see_to.new.self c.self.inside.viewers.connections c.let_go.new.self.connections c.self.view_is c.let_go.ensures.served);
      stands = c.see_to.ensures.stands;
    }
