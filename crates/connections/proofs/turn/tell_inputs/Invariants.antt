use Rattle.std.proofs.Common.{◌≡◌, take}
use Rattle.connections.specs.Drawing.{Draws}
use Rattle.connection.specs.Holding.{held_behind}
use Rattle.connections.specs.Telling.{said_by, told_behind}
use Rattle.connections.specs.TellingLemmas.{IsToldAll}
use Rattle.connections.proofs.turn.tell_inputs.Given as goal

-- so far the application was told the first inputs, and they are taken in
abbrev pub invariant-loop-index : goal.invariant-loop-index
invariant-loop-index g l = record {
  draws : Draws l.fn.canvas l.canvas;
  same : l.connection ≡ record l.fn.connection { held = l.connection.held };
  held : l.connection.held ≡ held_behind l.fn.connection.held (take l.index l.inputs);
  told : IsToldAll g.A.Application.stands (said_by l.fn.connection.number (told_behind l.fn.connection.held (take l.index l.inputs))) l.fn.application l.application;
}
