use Rattle.std.proofs.Common.{◌≡◌, ℕ, ◌<◌, ◌≤◌, true}
use Rattle.subrectangles.specs.Subrectangles.{row_at, has_run}
use Rattle.subrectangles.specs.Lines.{lines_in}
use Rattle.subrectangles.proofs.scan.rows_with.Given as goal

-- the rows passed have the run
abbrev pub invariant-loop-y : goal.invariant-loop-y
invariant-loop-y l = (k : ℕ) → l.top ≤ k → k < l.y → has_run l.run (row_at (lines_in l.pixels) k) ≡ true
