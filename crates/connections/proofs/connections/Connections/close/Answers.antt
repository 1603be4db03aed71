use Rattle.connections.proofs.Everyone.{goes-then, goes-among}
use Rattle.connections.proofs.connections.Connections.close.Goals as goal

pub returns-clause-served : goal.returns-clause-served
returns-clause-served g c =
    let i = c.self.inside in
    goes-then _ _ _ (goes-among c.args.self.now i.canvas _ _ i.connections.slots _ i.agenda.list i.asking.list c.insert.new.self.list i.asking.list c.self.view_is (λ key works. c.insert.ensures.kept key) (λ key asks h. h)) c.end_at.ensures.served
