use Rattle.std.proofs.Common.{All, take}
use Rattle.std.specs.Time.{instant_nanos}
use Rattle.sockets.specs.Doors.{IsAskedBy}
use Rattle.sockets.proofs.doors.Doors.retry_after.Given as goal

abbrev pub invariant-loop-index : goal.invariant-loop-index
invariant-loop-index l = All (IsAskedBy (instant_nanos l.now) l.wait) (take l.index l.self.doors.items)
