use Rattle.std.proofs.Common.{◌≡◌, Some, sym, ap, ◌∙◌}
use Rattle.std.specs.Prelude.{option_map}
use Rattle.key_set.specs.Among.{is_among}
use Rattle.connection.specs.Known.{Known}
use Rattle.connection.specs.Connection.{ViewerConnection, noted_by}
use Rattle.connections.specs.Serving.{Serving, at_key}
use Rattle.connections.proofs.Turns.{turn-noted}
use Rattle.connections.proofs.Everyone.{goes-at, asks-same, at-set}
use Rattle.connections.proofs.connections.Connections.note_at.Goals as goal

pub returns-clause-served : goal.returns-clause-served
returns-clause-served g c =
    let i = c.self.inside in
    let e = c.in-Some.connection.now in
    let f = c.note.new.self in
    let known = ap (λ (x : ViewerConnection). x.known) c.note.ensures in
    let same = c.note.ensures ∙ ap (λ (k : Known). record e { known = k }) (sym known) in
    goes-at c.args.self.now i.canvas i.canvas _ _ i.connections.slots _ i.agenda.list i.asking.list c.args.key e f c.self.view_is (sym c.in-Some.ensures.value)
    (ap (λ (x : Serving). is_among c.args.key x.agenda) c.self.view_is ∙ c.requires) (asks-same e f i.asking.list c.args.key (ap (λ (k : Known). k.may_ask) known))
    (turn-noted i.canvas e f same (ap (λ (k : Known). k.may_cut) known) (ap (λ (k : Known). k.may_ask) known))

pub returns-clause-noted : goal.returns-clause-noted
returns-clause-noted g c =
    let i = c.self.inside in
    let e = c.in-Some.connection.now in
    let there : at_key i.connections.slots c.args.key ≡ Some e = sym c.in-Some.ensures.value in
    at-set i.connections.slots c.args.key e c.note.new.self there ∙ ap Some c.note.ensures ∙ ap (option_map (noted_by c.args.found)) (sym there ∙ ap (λ (x : Serving). at_key x.slots c.args.key) c.self.view_is)
