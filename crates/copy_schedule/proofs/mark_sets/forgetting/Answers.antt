use Rattle.region.specs.Region.{covers}
use Rattle.copy_schedule.specs.SetLemmas.{lies_either, lies_part}
use Rattle.copy_schedule.proofs.mark_sets.forgetting.Goals as goal

pub returns-clause-sets : goal.returns-clause-sets
returns-clause-sets c = λ w h is on_set. c.in_ok-left.ensures.sets w h is (lies_either w h c.args.set.now.list c.in_ok-awaiting.awaiting.list c.in_ok-all.all.list on_set
    (lies_part w h c.args.sets.now.copied.list c.in_ok-awaiting.awaiting.list (covers c.args.other.now.list) is.copied_on c.in_ok-awaiting.ensures) c.in_ok-all.ensures)
