use Rattle.std.proofs.Common.{[], Some, refl}
use Rattle.record_writer.specs.Held.{bytes_held}
use Rattle.event_loop.specs.Sockets.{sockets_and}
use Rattle.event_loop.proofs.Steps.{refused-connections, served-same}
use Rattle.event_loop.proofs.event_loop.EventLoop.recorded.Goals as goal

pub returns-in-Ok-clause-serves : goal.returns-in-Ok-clause-serves
returns-in-Ok-clause-serves g c =
    let began = sockets_and (Some (bytes_held c.args.writer)) c.args.config in
    served-same c.args.config began [] _ c.of.result c.of.ensures.same (c.in-Ok.ensures.serves began refl)

pub returns-in-Err-clause-refused : goal.returns-in-Err-clause-refused
returns-in-Err-clause-refused g c = refused-connections _ c.recorded.result c.in-Err.refusal _ c.in-Err.is c.recorded.ensures.refused
