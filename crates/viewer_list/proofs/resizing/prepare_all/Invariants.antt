use Rattle.std.proofs.Common.{◌≡◌, ◌-◌, map, take, length}
use Rattle.std.specs.Prelude.{IfSome}
use Rattle.std.specs.Map.{values_of}
use Rattle.client_list.specs.Connected.{IsPosition, passed}
use Rattle.viewer_list.specs.Lagging.{resized_marks}
use Rattle.viewer_list.proofs.resizing.prepare_all.Given as goal

-- the marks of the viewers that were passed
abbrev pub invariant-loop-position : goal.invariant-loop-position
invariant-loop-position l = record {
  position : IfSome l.position (IsPosition l.viewers);
  made : l.marks.items ≡ take (passed l.viewers l.position) (map (resized_marks l.width l.height) (values_of l.viewers.pairs));
}

abbrev pub decreases-loop-position : goal.decreases-loop-position
decreases-loop-position l = length l.viewers.positions - passed l.viewers l.position
