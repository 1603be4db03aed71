use Rattle.connections.proofs.Everyone.{goes-drawn-by}
use Rattle.connections.proofs.connections.Connections.tell_came.Goals as goal

pub returns-clause-served : goal.returns-clause-served
returns-clause-served g c = goes-drawn-by c.args.self.now c.self.inside.canvas c.came.new._canvas _ _ _ _ _ _ c.self.view_is c.came.ensures.draws
