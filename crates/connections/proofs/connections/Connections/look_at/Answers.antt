use Rattle.std.proofs.Common.{sym, ap, ◌∙◌}
use Rattle.key_set.specs.Among.{is_among}
use Rattle.connection.specs.Known.{Known}
use Rattle.connection.specs.Connection.{ViewerConnection}
use Rattle.connections.specs.Serving.{Serving}
use Rattle.connections.proofs.Turns.{turn-looked}
use Rattle.connections.proofs.Everyone.{goes-at, asks-same}
use Rattle.connections.proofs.connections.Connections.look_at.Goals as goal

pub returns-clause-served : goal.returns-clause-served
returns-clause-served g c =
    let i = c.self.inside in
    let e = c.in-Some.connection.now in
    let f = c.look.new.self in
    let known = ap (λ (x : ViewerConnection). x.known) c.look.ensures in
    let same = c.look.ensures ∙ ap (λ (k : Known). record e { known = k }) (sym known) in
    goes-at c.args.self.now i.canvas i.canvas _ _ i.connections.slots _ i.agenda.list i.asking.list c.args.key e f c.self.view_is (sym c.in-Some.ensures.value)
    (ap (λ (x : Serving). is_among c.args.key x.agenda) c.self.view_is ∙ c.requires) (asks-same e f i.asking.list c.args.key (ap (λ (k : Known). k.may_ask) known))
    (turn-looked i.canvas e f same (ap (λ (k : Known). k.may_cut) known) (ap (λ (k : Known). k.may_ask) known))
