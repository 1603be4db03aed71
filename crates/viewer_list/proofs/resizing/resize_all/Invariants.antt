use Rattle.std.proofs.Common.{◌≡◌, ◌-◌, drop, reverse, map, length}
use Rattle.std.specs.Map.{values_of}
use Rattle.client_list.specs.Connected.{changed, passed}
use Rattle.client_list.specs.WalkLemmas.{IsWalk}
use Rattle.viewer_list.specs.Lagging.{resized_marks, resized_of}
use Rattle.viewer_list.proofs.resizing.resize_all.Given as goal

-- the viewers that were passed have their marks, and those of the others are left, the last one's first
abbrev pub invariant-loop-position : goal.invariant-loop-position
invariant-loop-position l = record {
  walk : IsWalk l.fn.viewers (changed (resized_of l.width l.height) l.fn.viewers.pairs) l.viewers l.position;
  left : l.marks.items ≡ reverse (drop (passed l.viewers l.position) (map (resized_marks l.width l.height) (values_of l.fn.viewers.pairs)));
}

abbrev pub decreases-loop-position : goal.decreases-loop-position
decreases-loop-position l = length l.viewers.positions - passed l.viewers l.position
