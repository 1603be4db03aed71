use Rattle.connections.proofs.Everyone.{goes-among}
use Rattle.connections.proofs.connections.Connections.list_all.Goals as goal

pub returns-clause-served : goal.returns-clause-served
returns-clause-served g c =
    let i = c.self.inside in
    goes-among c.args.self.now i.canvas _ _ i.connections.slots _ i.agenda.list i.asking.list c.list_keys.new.agenda.list i.asking.list c.self.view_is (λ key works. c.list_keys.ensures.more key) (λ key asks h. h)
