use Rattle.std.proofs.Common.{not, ◌||◌}
use Rattle.std.specs.Prelude.{◌+ℤ◌}
use Rattle.region.specs.Region.{covers}
use Rattle.copy_schedule.specs.MarkSetLemmas.{lost_marks}
use Rattle.copy_schedule.specs.SetLemmas.{lies_part}
use Rattle.copy_schedule.proofs.mark_sets.losing.Goals as goal

pub returns-clause-marks : goal.returns-clause-marks
returns-clause-marks c = lost_marks c.args.sets.now c.in_ok-left.left c.in_ok-lost.lost.list (λ x y. not c.args.stays || covers c.args.drawn.now.list (x +ℤ c.args.offset.0) (y +ℤ c.args.offset.1)) c.requires.sets.apart c.in_ok-lost.ensures c.in_ok-left.ensures.marks

pub returns-clause-sets : goal.returns-clause-sets
returns-clause-sets c = λ w h is. c.in_ok-left.ensures.sets w h is (lies_part w h c.args.sets.now.copied.list c.in_ok-lost.lost.list (λ x y. not c.args.stays || covers c.args.drawn.now.list (x +ℤ c.args.offset.0) (y +ℤ c.args.offset.1)) is.copied_on c.in_ok-lost.ensures)
