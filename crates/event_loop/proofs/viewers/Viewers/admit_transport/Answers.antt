use Rattle.event_loop.proofs.Steps.{from-admitted}
use Rattle.event_loop.proofs.viewers.Viewers.admit_transport.Goals as goal

pub returns-clause-served : goal.returns-clause-served
returns-clause-served g c = from-admitted _ _ _ c.in-Ok.ensures.serves
