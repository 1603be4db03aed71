use Rattle.std.proofs.Common.{◌≡◌, ◌≤◌, ◌+◌, length}
use Rattle.subrectangles.specs.Breaks.{breaks}
use Rattle.subrectangles.proofs.breaks.breaks_in.Given as goal

-- the places passed are counted
abbrev pub invariant-loop-x : goal.invariant-loop-x
invariant-loop-x l = record { counted : l.count ≡ breaks l.row l.above l.x; small : l.count ≤ l.x; within : l.x ≤ length l.row + 1 }
