use Rattle.std.proofs.Common.{◌-◌, length}
use Rattle.client_list.specs.Connected.{changed, passed}
use Rattle.client_list.specs.WalkLemmas.{IsWalk}
use Rattle.viewer_list.specs.Lagging.{brought_up, IsCatchUp}
use Rattle.viewer_list.proofs.walks.catch_up_from.Given as goal

-- the viewers that were passed have caught up where they have taken so many entries
abbrev pub invariant-loop-position : goal.invariant-loop-position
invariant-loop-position l = record {
  walk : IsWalk l.fn.viewers (changed (brought_up l.log l.least) l.fn.viewers.pairs) l.viewers l.position;
  shared : IsCatchUp l.log l.shared;
}

abbrev pub decreases-loop-position : goal.decreases-loop-position
decreases-loop-position l = length l.viewers.positions - passed l.viewers l.position
