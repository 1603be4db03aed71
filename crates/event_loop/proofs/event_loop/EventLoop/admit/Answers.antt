use Rattle.event_loop.proofs.Steps.{on-came}
use Rattle.event_loop.proofs.event_loop.EventLoop.admit.Goals as goal

pub returns-in_err-admission-clause-served : goal.returns-in_err-admission-clause-served
returns-in_err-admission-clause-served g c = on-came c.args.self.now c.self.inside.viewers.connections c.admit.new.self.connections c.self.view_is c.admit.ensures.served

pub returns-clause-served : goal.returns-clause-served
returns-clause-served g c = on-came c.args.self.now c.self.inside.viewers.connections c.admit.new.self.connections c.self.view_is c.admit.ensures.served
