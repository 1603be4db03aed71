use Rattle.std.proofs.Common.{◌∙◌}
use Rattle.connections.proofs.Everyone.{goes-then}
use Rattle.connections.proofs.connections.Connections.send_all.Goals as goal

pub loop-index-preserved : goal.loop-index-preserved
loop-index-preserved g c = record { served = goes-then _ _ _ c.loop-index.invariant.served c.send_at.ensures.served; drawn = c.send_at.ensures.drawn ∙ c.loop-index.invariant.drawn }
