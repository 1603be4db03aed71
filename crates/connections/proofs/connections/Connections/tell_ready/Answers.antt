use Rattle.connections.proofs.Everyone.{goes-drawn-by}
use Rattle.connections.proofs.connections.Connections.tell_ready.Goals as goal

pub returns : goal.returns
returns g c = record { served = goes-drawn-by c.args.self.now c.self.inside.canvas c.ready.new._canvas _ _ _ _ _ _ c.self.view_is c.ready.ensures.draws; stands = c.ready.ensures.stands }
