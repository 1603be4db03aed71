use Rattle.std.proofs.Common.{◌≤◌, ◌-◌}
use Rattle.event_loop.proofs.Steps.{TellsAll}
use Rattle.event_loop.proofs.event_loop.EventLoop.take_turns.Given as goal

-- so far the application was told all
abbrev pub invariant-turns : goal.invariant-turns
invariant-turns g l = record {
  turns : l.turns ≤ l.most;
  told : TellsAll g.A.Application.stands l.fn.self l.self l.fn.application l.application;
}

abbrev pub decreases-turns : goal.decreases-turns
decreases-turns g l = l.most - l.turns
