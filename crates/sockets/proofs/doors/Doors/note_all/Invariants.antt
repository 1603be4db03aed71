use Rattle.std.proofs.Common.{◌≡◌, ◌++◌, drop, map, take}
use Rattle.sockets.specs.Doors.{noted}
use Rattle.sockets.proofs.doors.Doors.note_all.Given as goal

-- those that were passed are changed
abbrev pub invariant-loop-index : goal.invariant-loop-index
invariant-loop-index l = l.self.doors.items ≡ map noted (take l.index l.fn.self.doors.items) ++ drop l.index l.fn.self.doors.items
