use Rattle.std.proofs.Common.{Ok, inr, sym, ap, ◌∙◌, rules}
use Rattle.screen.specs.declared.ScreenError.{ScreenError}
use Rattle.key_set.specs.Among.{is_among}
use Rattle.connections.specs.Serving.{Serving}
use Rattle.connections.proofs.Everyone.{goes-is, goes-silently, goes-at-telling}
use Rattle.connections.proofs.connections.Connections.hear_at.Goals as goal

pub returns-in-Some-clause-served : goal.returns-in-Some-clause-served
returns-in-Some-clause-served g c =
    let i = c.self.inside in
    goes-at-telling g.A.Application.stands c.args.application.now c.listen.new.application c.listen.result c.args.self.now i.canvas c.listen.new.canvas _ _ i.connections.slots _ i.agenda.list i.asking.list c.args.key c.in-Some.connection.now c.listen.new.connection c.self.view_is (sym c.in-Some.ensures.value)
    (ap (λ (x : Serving). is_among c.args.key x.agenda) c.self.view_is ∙ c.requires.agenda) (λ ask. inr (ap (λ (x : Serving). is_among c.args.key x.asking) c.self.view_is ∙ c.requires.asking)) c.listen.ensures.turn

pub returns-in-None-clause-served : goal.returns-in-None-clause-served
returns-in-None-clause-served g c =
    goes-silently g.A.Application.stands {X = Unit {0}} {E = ScreenError} c.args.application.now (Ok tt) _ _ (goes-is c.args.self.now _ (search rules))
