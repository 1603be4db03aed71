use Rattle.replay.proofs.Growing.{grows_more}
use Rattle.replay.proofs.seen.write_shown.Goals as goal

pub loop-y-preserved : goal.loop-y-preserved
loop-y-preserved g c = grows_more _ _ _ _ c.loop-y.invariant c.in_ok-print.ensures
