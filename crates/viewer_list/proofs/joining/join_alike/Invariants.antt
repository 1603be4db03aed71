use Rattle.std.proofs.Common.{◌≡◌, ◌≤◌, ◌<◌, All, length}
use Rattle.std.specs.Map.{values_of}
use Rattle.viewer_list.specs.Lagging.{seen, Fits}
use Rattle.viewer_list.proofs.joining.join_alike.Given as goal

-- the viewers are seen as before, and the log has no more entries
abbrev pub invariant-loop-log : goal.invariant-loop-log
invariant-loop-log l = record {
  position : l.position < length l.log.items;
  len : length l.log.items ≤ length l.initial.log.items;
  seen : seen l.log.items l.viewers.pairs ≡ seen l.initial.log.items l.initial.viewers.pairs;
  fits : All (Fits l.log.items) (values_of l.viewers.pairs);
}

abbrev pub decreases-loop-log : goal.decreases-loop-log
decreases-loop-log l = length l.log.items
