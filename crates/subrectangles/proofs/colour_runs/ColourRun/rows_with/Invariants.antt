use Rattle.std.proofs.Common.{◌≡◌, ℕ, ◌<◌, ◌≤◌, true}
use Rattle.subrectangles.specs.Subrectangles.{row_at, has_run}
use Rattle.subrectangles.specs.Pixels.{translated_lines}
use Rattle.subrectangles.proofs.colour_runs.ColourRun.rows_with.Given as goal

-- the rows passed have the run
abbrev pub invariant-loop-y : goal.invariant-loop-y
invariant-loop-y l = (k : ℕ) → l.top ≤ k → k < l.y → has_run l.self.run (row_at (translated_lines l.self.table.now l.colours) k) ≡ true
