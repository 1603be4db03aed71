use Rattle.replay.proofs.Growing.{grows_more}
use Rattle.replay.proofs.viewers.Visits.write.Goals as goal

pub loop-visit-preserved : goal.loop-visit-preserved
loop-visit-preserved g c = grows_more _ _ _ _ c.loop-visit.invariant c.in_ok-print.ensures
