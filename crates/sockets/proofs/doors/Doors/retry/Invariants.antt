use Rattle.std.proofs.Common.{◌≡◌, ◌++◌, drop, map, take}
use Rattle.std.specs.Time.{instant_nanos}
use Rattle.sockets.specs.Doors.{asked_again}
use Rattle.sockets.proofs.doors.Doors.retry.Given as goal

-- those that were passed are changed
abbrev pub invariant-loop-index : goal.invariant-loop-index
invariant-loop-index l = l.self.doors.items ≡ map (asked_again (instant_nanos l.now)) (take l.index l.fn.self.doors.items) ++ drop l.index l.fn.self.doors.items
