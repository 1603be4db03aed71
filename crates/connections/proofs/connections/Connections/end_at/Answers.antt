use Rattle.std.proofs.Common.{◌≡◌, Some, sym, ap, ◌∙◌}
use Rattle.std.specs.Prelude.{option_map}
use Rattle.key_set.specs.Among.{is_among}
use Rattle.connections.specs.Serving.{Serving, at_key}
use Rattle.connection.specs.Connection.{ended_by}
use Rattle.connections.proofs.Turns.{turn-closed}
use Rattle.connections.proofs.Everyone.{goes-at, asks-closed, at-set}
use Rattle.connections.proofs.connections.Connections.end_at.Goals as goal

pub returns-clause-served : goal.returns-clause-served
returns-clause-served g c =
    let i = c.self.inside in
    let e = c.in-Some.connection.now in
    let f = c.close.new.self in
    goes-at c.args.self.now i.canvas i.canvas _ _ i.connections.slots _ i.agenda.list i.asking.list c.args.key e f c.self.view_is (sym c.in-Some.ensures.value)
    (ap (λ (x : Serving). is_among c.args.key x.agenda) c.self.view_is ∙ c.requires) (asks-closed e f (Some c.args.ended) i.asking.list c.args.key c.close.ensures.either) (turn-closed i.canvas e f (Some c.args.ended) c.close.ensures.either)

pub returns-clause-ended : goal.returns-clause-ended
returns-clause-ended g c =
    let i = c.self.inside in
    let e = c.in-Some.connection.now in
    let there : at_key i.connections.slots c.args.key ≡ Some e = sym c.in-Some.ensures.value in
    at-set i.connections.slots c.args.key e c.close.new.self there ∙ ap Some c.close.ensures.ended ∙ ap (option_map (ended_by c.args.ended)) (sym there ∙ ap (λ (x : Serving). at_key x.slots c.args.key) c.self.view_is)
