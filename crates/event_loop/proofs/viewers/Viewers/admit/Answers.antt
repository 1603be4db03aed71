use Rattle.event_loop.proofs.Steps.{from-then}
use Rattle.event_loop.proofs.viewers.Viewers.admit.Goals as goal

pub returns-in_err-tell_came-clause-served : goal.returns-in_err-tell_came-clause-served
returns-in_err-tell_came-clause-served g c = from-then _ _ _ _ c.admit_transport.ensures.served c.tell_came.ensures.served

pub returns-clause-served : goal.returns-clause-served
returns-clause-served g c = from-then _ _ _ _ c.admit_transport.ensures.served c.tell_came.ensures.served
