use Rattle.std.proofs.Common.{◌≡◌, ◌-◌, drop, reverse, map, length}
use Rattle.std.specs.Map.{values_of}
use Rattle.client_list.specs.Connected.{changed, passed}
use Rattle.client_list.specs.WalkLemmas.{IsWalk}
use Rattle.updates.specs.declared.notices.Notice.TheVariants as notice
use Rattle.viewer_list.specs.declared.lagging.Lagging.{Lagging}
use Rattle.viewer_list.specs.Lagging.{told_of}
use Rattle.viewer_list.specs.Viewers.{text_for}
use Rattle.viewer_list.proofs.notices.keep_texts.Given as goal

-- the viewers that were passed keep their texts, and those of the others are left, the last one's first
abbrev pub invariant-loop-position : goal.invariant-loop-position
invariant-loop-position l = record {
  walk : IsWalk l.fn.viewers (changed (told_of (notice.CutText l.text)) l.fn.viewers.pairs) l.viewers l.position;
  left : l.notices.items ≡ reverse (drop (passed l.viewers l.position) (map (λ (v : Lagging). text_for l.text v.viewer) (values_of l.fn.viewers.pairs)));
}

abbrev pub decreases-loop-position : goal.decreases-loop-position
decreases-loop-position l = length l.viewers.positions - passed l.viewers l.position
