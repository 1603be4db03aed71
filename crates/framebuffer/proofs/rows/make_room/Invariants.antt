use Rattle.std.proofs.Common.{◌≤◌, length}
use Rattle.framebuffer.proofs.rows.make_room.Given as goal

-- so many rows are there
abbrev pub invariant-loop-i : goal.invariant-loop-i
invariant-loop-i l = l._i ≤ length l.retired.items
