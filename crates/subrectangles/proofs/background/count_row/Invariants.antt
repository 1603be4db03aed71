use Rattle.std.proofs.Common.{◌≡◌, ℕ, ◌≤◌, ◌+◌, ◌*◌, ◌-◌, length, take}
use Rattle.subrectangles.specs.Subrectangles.{times}
use Rattle.subrectangles.specs.Counted.{count_in, IsBestOf}
use Rattle.subrectangles.proofs.background.count_row.Given as goal

-- the pixels passed are counted, and best is the best of all that are
abbrev pub invariant-loop-start : goal.invariant-loop-start
invariant-loop-start l = record {
  within : l.start ≤ length l.row;
  counted : (q : ℕ) → count_in l.counter q ≡ count_in l.fn.counter q + l.rows * times q (take l.start l.row);
  best : IsBestOf (count_in l.counter) l.counter.best l.counter.most;
}

abbrev pub decreases-loop-start : goal.decreases-loop-start
decreases-loop-start l = length l.row - l.start
