use Rattle.std.proofs.Common.{◌≡◌, ℕ, ◌<◌, ◌≤◌, ◌+◌, get_or, length}
use Rattle.subrectangles.specs.Breaks.{breaks, breaks_like}
use Rattle.subrectangles.proofs.breaks.add_breaks.Given as goal

-- the places passed are counted
abbrev pub invariant-loop-x : goal.invariant-loop-x
invariant-loop-x l = record {
  counted : l.count ≡ breaks l.row l.above l.x;
  each : (k : ℕ) → k < 251 → get_or l.buckets k 0 ≡ get_or l.fn.buckets k 0 + breaks_like k l.row l.above l.x;
  small : l.count ≤ l.x;
  within : l.x ≤ length l.row + 1;
}
