use Rattle.event_loop.proofs.Steps.{TellsAll}
use Rattle.event_loop.proofs.event_loop.EventLoop.part.Given as goal

-- so far the application was told all
abbrev pub invariant-loop : goal.invariant-loop
invariant-loop g l = TellsAll g.A.Application.stands l.fn.self l.self l.fn.application l.application
