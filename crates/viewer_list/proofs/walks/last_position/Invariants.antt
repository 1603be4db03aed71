use Rattle.std.proofs.Common.{◌≡◌, ◌-◌, take, length}
use Rattle.std.specs.Prelude.{IfSome}
use Rattle.std.specs.Map.{values_of}
use Rattle.client_list.specs.Connected.{IsPosition, passed}
use Rattle.viewer_list.specs.Lagging.{last_position}
use Rattle.viewer_list.proofs.walks.last_position.Given as goal

-- the last position of the viewers that were passed
abbrev pub invariant-loop-position : goal.invariant-loop-position
invariant-loop-position l = record {
  position : IfSome l.position (IsPosition l.viewers);
  last : l.last ≡ last_position l.end (take (passed l.viewers l.position) (values_of l.viewers.pairs));
}

abbrev pub decreases-loop-position : goal.decreases-loop-position
decreases-loop-position l = length l.viewers.positions - passed l.viewers l.position
