use Rattle.std.proofs.Common.{◌≡◌}
use Rattle.std.specs.Prelude.{IsSome}
use Rattle.rfb_viewer.proofs.shown.Shown.told.Given as goal

-- nothing changes behind a fault
abbrev pub invariant-loop-byte : goal.invariant-loop-byte
invariant-loop-byte l = IsSome l.initial.self.fault → l.self ≡ l.initial.self
