use Rattle.region.specs.Region.{covers}
use Rattle.copy_schedule.specs.MarkSetLemmas.{moving_marks, moving_keeps}
use Rattle.copy_schedule.proofs.mark_sets.moving.Goals as goal

pub returns-clause-marks : goal.returns-clause-marks
returns-clause-marks c = λ x y on. moving_marks c.args.sets.now (record { owed = c.in_ok-owed.owed; copied = c.in_ok-copied.copied }) c.args.drawn.now.list c.in_ok-all.all.list c.in_ok-sources.sources.list c.in_ok-taken.taken.list c.args.offset.0 c.args.offset.1 x y
    (c.in_ok-all.ensures x y) (c.in_ok-sources.ensures x y on) (c.in_ok-taken.ensures x y) (c.in_ok-owed.ensures x y) (c.in_ok-copied.ensures x y)

pub returns-clause-sets : goal.returns-clause-sets
returns-clause-sets c = λ w h is on_drawn. moving_keeps w h c.args.sets.now (record { owed = c.in_ok-owed.owed; copied = c.in_ok-copied.copied }) c.args.drawn.now.list c.in_ok-all.all.list c.in_ok-taken.taken.list (covers c.in_ok-sources.sources.list) is on_drawn
    c.in_ok-all.ensures c.in_ok-taken.ensures c.in_ok-owed.ensures c.in_ok-copied.ensures
