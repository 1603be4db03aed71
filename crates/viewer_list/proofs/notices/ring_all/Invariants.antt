use Rattle.std.proofs.Common.{◌-◌, length}
use Rattle.client_list.specs.Connected.{changed, passed}
use Rattle.client_list.specs.WalkLemmas.{IsWalk}
use Rattle.updates.specs.declared.notices.Notice.TheVariants as notice
use Rattle.viewer_list.specs.Lagging.{told_of}
use Rattle.viewer_list.proofs.notices.ring_all.Given as goal

-- the viewers that were passed keep a bell
abbrev pub invariant-loop-position : goal.invariant-loop-position
invariant-loop-position l = IsWalk l.fn.viewers (changed (told_of notice.Bell) l.fn.viewers.pairs) l.viewers l.position

abbrev pub decreases-loop-position : goal.decreases-loop-position
decreases-loop-position l = length l.viewers.positions - passed l.viewers l.position
