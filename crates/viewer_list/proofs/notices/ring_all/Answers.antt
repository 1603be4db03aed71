use Rattle.std.proofs.Common.{ap}
use Rattle.viewer.specs.Viewer.{KeptViewer}
use Rattle.client_list.specs.WalkLemmas.{change_step}
use Rattle.updates.specs.declared.notices.Notice.TheVariants as notice
use Rattle.viewer_list.specs.Lagging.{told_of}
use Rattle.viewer_list.proofs.notices.ring_all.Goals as goal

pub loop-position-preserved : goal.loop-position-preserved
loop-position-preserved c =
    change_step
    (told_of notice.Bell)
    c.args.viewers.now
    c.loop-position.viewers
    c.loop-position.position
    c.next-position.result
    c.in-Some.at
    c.at_mut.result.now
    (record c.at_mut.result.now { viewer = c.keep.new.self })
    c.loop-position.invariant
    c.in-Some.is
    c.at_mut.ensures.value
    (ap (λ (v : KeptViewer). record c.at_mut.result.now { viewer = v }) c.keep.ensures)
    c.next-position.ensures.position
    c.next-position.ensures.passed
