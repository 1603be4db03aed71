use Rattle.client_list.specs.WalkLemmas.{change_step}
use Rattle.viewer_list.specs.Lagging.{within_end}
use Rattle.viewer_list.proofs.walks.move_all_within.Goals as goal

pub loop-position-preserved : goal.loop-position-preserved
loop-position-preserved c =
    change_step
    (within_end c.args.end)
    c.args.viewers.now
    c.loop-position.viewers
    c.loop-position.position
    c.next-position.result
    c.in-Some.at
    c.at_mut.result.now
    c.move_within.new.self
    c.loop-position.invariant
    c.in-Some.is
    c.at_mut.ensures.value
    c.move_within.ensures
    c.next-position.ensures.position
    c.next-position.ensures.passed
