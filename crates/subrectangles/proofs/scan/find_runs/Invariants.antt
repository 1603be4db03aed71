use Rattle.std.proofs.Common.{◌≡◌, ◌-◌, length}
use Rattle.subrectangles.specs.Starts.{Found}
use Rattle.subrectangles.proofs.scan.find_runs.Given as goal

-- the runs that begin in the places passed are found
abbrev pub invariant-loop-x : goal.invariant-loop-x
invariant-loop-x l = record {
  found : Found l.row l.starts l.count l.x;
  len : length l.starts ≡ length l.fn.starts;
}

abbrev pub decreases-loop-x : goal.decreases-loop-x
decreases-loop-x l = length l.row - l.x
