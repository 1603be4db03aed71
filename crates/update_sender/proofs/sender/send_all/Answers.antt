use Rattle.update_sender.proofs.Served.{updates-none, updates-more, updates-end}
use Rattle.update_sender.proofs.sender.send_all.Goals as goal

pub loop-init : goal.loop-init
loop-init g c = updates-none _ _ _

pub returns-in-Err : goal.returns-in-Err
returns-in-Err g c = updates-end _ _ _ _ _ _ _ _ _ c.loop.invariant c.in-Err.ensures

pub loop-preserved : goal.loop-preserved
loop-preserved g c = updates-more _ _ _ _ _ _ _ c.loop.invariant c.in_default.ensures
