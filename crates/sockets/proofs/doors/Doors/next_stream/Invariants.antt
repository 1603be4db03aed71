use Rattle.std.proofs.Common.{◌≡◌, length}
use Rattle.sockets.proofs.doors.Doors.next_stream.Given as goal

abbrev pub invariant-loop : goal.invariant-loop
invariant-loop l = length l.self.doors.items ≡ length l.fn.self.doors.items
