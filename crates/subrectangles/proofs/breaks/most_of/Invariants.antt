use Rattle.std.proofs.Common.{ℕ, ◌<◌, ◌≤◌, get_or}
use Rattle.subrectangles.proofs.breaks.most_of.Given as goal

-- none of those passed is greater
abbrev pub invariant-loop-count : goal.invariant-loop-count
invariant-loop-count l = (k : ℕ) → k < l.count-index → get_or l.buckets k 0 ≤ l.most
