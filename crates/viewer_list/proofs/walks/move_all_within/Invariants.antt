use Rattle.std.proofs.Common.{◌-◌, length}
use Rattle.client_list.specs.Connected.{changed, passed}
use Rattle.client_list.specs.WalkLemmas.{IsWalk}
use Rattle.viewer_list.specs.Lagging.{within_end}
use Rattle.viewer_list.proofs.walks.move_all_within.Given as goal

-- the viewers that were passed stand within the log
abbrev pub invariant-loop-position : goal.invariant-loop-position
invariant-loop-position l = IsWalk l.fn.viewers (changed (within_end l.end) l.fn.viewers.pairs) l.viewers l.position

abbrev pub decreases-loop-position : goal.decreases-loop-position
decreases-loop-position l = length l.viewers.positions - passed l.viewers l.position
