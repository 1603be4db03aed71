use Rattle.connections.specs.Drawing.{Draws}
use Rattle.example_picture.proofs.paint_all.Given as goal

-- so far nothing was done but drawing calls
abbrev pub invariant-loop-row : goal.invariant-loop-row
invariant-loop-row l = Draws l.fn.canvas l.canvas
