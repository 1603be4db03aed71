use Rattle.event_loop.proofs.Steps.{on-then}
use Rattle.event_loop.proofs.event_loop.EventLoop.tell_time.Goals as goal

pub returns-in_err-tell_ready : goal.returns-in_err-tell_ready
returns-in_err-tell_ready g c =
    record {
      served = on-then _ _ _ c.tell_woken.ensures.served c.tell_ready.ensures.served;
      stands = λ inputs h. c.tell_ready.ensures.stands inputs (c.tell_woken.ensures.stands inputs h);
    }

pub returns : goal.returns
returns g c =
    record {
      served = on-then _ _ _ (on-then _ _ _ c.tell_woken.ensures.served c.tell_ready.ensures.served) c.tick.ensures.served;
      stands = λ inputs h. c.tick.ensures.stands inputs (c.tell_ready.ensures.stands inputs (c.tell_woken.ensures.stands inputs h));
    }
