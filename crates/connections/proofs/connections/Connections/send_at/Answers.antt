use Rattle.std.proofs.Common.{inl, sym, ap, ◌∙◌}
use Rattle.key_set.specs.Among.{is_among}
use Rattle.connections.specs.Serving.{Serving}
use Rattle.connections.proofs.Everyone.{goes-at}
use Rattle.connections.proofs.connections.Connections.send_at.Goals as goal

pub returns-clause-served : goal.returns-clause-served
returns-clause-served g c =
    let i = c.self.inside in
    goes-at c.args.self.now i.canvas c.send.new.canvas _ _ i.connections.slots _ i.agenda.list i.asking.list c.args.key c.in-Some.connection.now c.send.new.connection c.self.view_is (sym c.in-Some.ensures.value)
    (ap (λ (x : Serving). is_among c.args.key x.agenda) c.self.view_is ∙ c.requires) (λ ask. inl (c.send.ensures.asks ask)) c.send.ensures.turn
