use Rattle.std.proofs.Common.{◌≡◌}
use Rattle.connections.specs.Drawing.{Draws}
use Rattle.mirror.specs.Sources.{is_shown}
use Rattle.mirror.proofs.source.Source.draw_some.Given as goal

-- so far nothing was done but drawing calls, and the picture comes where it came
abbrev pub invariant-reads : goal.invariant-reads
invariant-reads g l = record {
  draws : Draws l.fn.canvas l.canvas;
  shown : is_shown l.self.stage ≡ is_shown l.fn.self.stage;
}
