use Rattle.std.proofs.Common.{◌≡◌}
use Rattle.connections.specs.Serving.{GoesOn}
use Rattle.connections.proofs.connections.Connections.send_all.Given as goal

abbrev pub invariant-loop-index : goal.invariant-loop-index
invariant-loop-index g l = record {
  served : GoesOn l.fn.self l.self;
  drawn : l.self.surface.drawn ≡ l.fn.self.surface.drawn;
}
