use Rattle.std.proofs.Common.{sym}
use Rattle.event_loop.proofs.Steps.{on-then, on-same}
use Rattle.event_loop.proofs.event_loop.EventLoop.see_to.Goals as goal

pub returns-in_err-accept_some : goal.returns-in_err-accept_some
returns-in_err-accept_some g c = record { served = on-then _ _ _ (on-same _ _ (sym c.most_at-most.ensures.same)) c.accept_some.ensures.served; stands = c.accept_some.ensures.stands }

pub returns : goal.returns
returns g c =
    record {
      served = on-then _ _ _ (on-then _ _ _ (on-same _ _ (sym c.most_at-most.ensures.same)) c.accept_some.ensures.served) c.answer_some.ensures.served;
      stands = λ inputs h. c.answer_some.ensures.stands inputs (c.accept_some.ensures.stands inputs h);
    }
