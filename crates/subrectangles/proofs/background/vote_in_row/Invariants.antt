use Rattle.std.proofs.Common.{length, ◌-◌}
use Rattle.subrectangles.proofs.background.vote_in_row.Given as goal

abbrev pub decreases-loop-x : goal.decreases-loop-x
decreases-loop-x l = length l.row - l.x
