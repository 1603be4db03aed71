use Rattle.std.proofs.Common.{◌≡◌, take}
use Rattle.connection.specs.Holding.{held_behind}
use Rattle.connection.proofs.connection.Connection.hold_all.Given as goal

-- so far the first inputs are taken in
abbrev pub invariant-loop-input : goal.invariant-loop-input
invariant-loop-input g l = record {
  same : l.self ≡ record l.fn.self { held = l.self.held };
  held : l.self.held ≡ held_behind l.fn.self.held (take l.input-index l.inputs);
}
