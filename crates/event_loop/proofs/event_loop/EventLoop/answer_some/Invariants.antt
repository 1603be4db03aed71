use Rattle.connections.specs.Telling.{Stays}
use Rattle.event_loop.specs.Sockets.{GoesOnServing}
use Rattle.event_loop.proofs.event_loop.EventLoop.answer_some.Given as goal

abbrev pub invariant-loop : goal.invariant-loop
invariant-loop g l = record {
  served : GoesOnServing l.fn.self l.self;
  stands : Stays g.A.Application.stands l.fn.application l.application;
}
