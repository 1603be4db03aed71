use Rattle.std.proofs.Common.{◌≡◌, ◌-◌, map, take, length}
use Rattle.std.specs.Prelude.{IfSome}
use Rattle.std.specs.Map.{values_of}
use Rattle.client_list.specs.Connected.{IsPosition, passed}
use Rattle.viewer_list.specs.declared.lagging.Lagging.{Lagging}
use Rattle.viewer_list.specs.Viewers.{text_for}
use Rattle.viewer_list.proofs.notices.texts.Given as goal

-- the texts of the viewers that were passed
abbrev pub invariant-loop-position : goal.invariant-loop-position
invariant-loop-position l = record {
  position : IfSome l.position (IsPosition l.viewers);
  made : l.notices.items ≡ take (passed l.viewers l.position) (map (λ (v : Lagging). text_for l.text v.viewer) (values_of l.viewers.pairs));
}

abbrev pub decreases-loop-position : goal.decreases-loop-position
decreases-loop-position l = length l.viewers.positions - passed l.viewers l.position
