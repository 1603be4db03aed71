use Rattle.std.proofs.Common.{◌≡◌, List, ◌++◌, length}
use Rattle.screen.specs.declared.Input.{Input}
use Rattle.held_inputs.specs.Held.{let_go}
use Rattle.connections.specs.Drawing.{Draws}
use Rattle.connections.specs.Telling.{said_by, releases}
use Rattle.connections.specs.TellingLemmas.{IsToldAll}
use Rattle.connections.proofs.turn.release.Given as goal

-- so far the application was told the first releases, and the others are left
abbrev pub invariant-loop-input : goal.invariant-loop-input
invariant-loop-input g l = record {
  draws : Draws l.fn.canvas l.canvas;
  nothing : l.nothing ≡ let_go l.held;
  told : (first : List Input) × (first ++ releases l.held ≡ releases l.fn.held) × IsToldAll g.A.Application.stands (said_by l.viewer first) l.fn.application l.application;
}

abbrev pub decreases-loop-input : goal.decreases-loop-input
decreases-loop-input g l = length (releases l.held)
