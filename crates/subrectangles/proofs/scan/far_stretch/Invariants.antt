use Rattle.std.proofs.Common.{◌≡◌, ℕ, ◌<◌, ◌≤◌, get_or}
use Rattle.subrectangles.proofs.scan.far_stretch.Given as goal

-- the pixels passed are the one at the start
abbrev pub invariant-loop-x : goal.invariant-loop-x
invariant-loop-x l = (k : ℕ) → l.start ≤ k → k < l.x → get_or l.row k 0 ≡ get_or l.row l.start 0
