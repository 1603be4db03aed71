use Rattle.event_loop.proofs.Steps.{TellsAll}
use Rattle.demo_app.proofs.one_thread.let_all_go.Given as goal

-- so far the application was told all
abbrev pub invariant-loop : goal.invariant-loop
invariant-loop g l = TellsAll g.A.Application.stands l.fn.served l.served l.fn.application l.application
