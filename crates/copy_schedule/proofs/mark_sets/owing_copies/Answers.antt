use Rattle.copy_schedule.proofs.mark_sets.owing_copies.Goals as goal

pub returns-clause-sets : goal.returns-clause-sets
returns-clause-sets c = λ w h is. c.in_ok-left.ensures.sets w h is is.copied_on
