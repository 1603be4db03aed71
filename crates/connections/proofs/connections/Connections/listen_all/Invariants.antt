use Rattle.connections.proofs.Everyone.{TellsAll}
use Rattle.connections.proofs.connections.Connections.listen_all.Given as goal

-- so far the application was told all
abbrev pub invariant-loop-index : goal.invariant-loop-index
invariant-loop-index g l = TellsAll g.A.Application.stands l.fn.self l.self l.fn.application l.application
