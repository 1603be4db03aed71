use Rattle.std.proofs.Common.{◌≡◌, ◌-◌, length, get_or}
use Rattle.subrectangles.specs.Starts.{Found}
use Rattle.subrectangles.proofs.scan.find_runs_between.Given as goal

-- the runs that begin in the places passed are found
abbrev pub invariant-loop-x : goal.invariant-loop-x
invariant-loop-x l = record {
  found : Found l.row l.starts l.count l.x;
  len : length l.starts ≡ length l.fn.starts;
  last : l.before ≡ get_or l.row (l.x - 1) 0;
}
