use Rattle.std.proofs.Common.{◌≡◌, ℕ, ◌<◌, ◌≤◌, ◌-◌, get_or, length}
use Rattle.subrectangles.proofs.scan.blocks_end.Given as goal

-- the pixels passed are the one
abbrev pub invariant-loop-x : goal.invariant-loop-x
invariant-loop-x l = record {
  before : l.from ≤ l.x;
  within : l.x ≤ length l.row;
  same : (k : ℕ) → l.from ≤ k → k < l.x → get_or l.row k 0 ≡ l.pixel;
}

abbrev pub decreases-loop-x : goal.decreases-loop-x
decreases-loop-x l = length l.row - l.x
