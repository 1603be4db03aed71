use Rattle.std.proofs.Common.{◌≡◌, ℕ, ◌<◌, ◌≤◌}
use Rattle.subrectangles.specs.Subrectangles.{row_at}
use Rattle.subrectangles.specs.Lines.{lines_in}
use Rattle.subrectangles.proofs.background.rows_like.Given as goal

-- the rows passed are like the first
abbrev pub invariant-loop-y : goal.invariant-loop-y
invariant-loop-y l = (k : ℕ) → l.top ≤ k → k < l.y → row_at (lines_in l.colours) k ≡ row_at (lines_in l.colours) l.top
