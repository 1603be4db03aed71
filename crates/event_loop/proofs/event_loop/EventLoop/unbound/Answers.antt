use Rattle.std.proofs.Common.{[], refl}
use Rattle.event_loop.specs.Sockets.{sockets}
use Rattle.event_loop.proofs.Steps.{refused-connections, served-same}
use Rattle.event_loop.proofs.event_loop.EventLoop.unbound.Goals as goal

pub returns-in-Ok-clause-serves : goal.returns-in-Ok-clause-serves
returns-in-Ok-clause-serves g c = let began = sockets c.args.config in served-same c.args.config began [] _ c.of.result c.of.ensures.same (c.in-Ok.ensures.serves began refl)

pub returns-in-Err-clause-refused : goal.returns-in-Err-clause-refused
returns-in-Err-clause-refused g c = refused-connections _ c.new.result c.in-Err.refusal _ c.in-Err.is c.new.ensures.refused
