use Rattle.std.proofs.Common.{Ok, rules}
use Rattle.screen.specs.declared.ScreenError.{ScreenError}
use Rattle.connections.proofs.Everyone.{goes-among, goes-is, goes-silently, tells-then}
use Rattle.connections.proofs.connections.Connections.listen_at.Goals as goal

pub returns-clause-served : goal.returns-clause-served
returns-clause-served g c =
    let i = c.self.inside in
    let stands = g.A.Application.stands in
    let before = c.args.application.now in
    tells-then stands before before c.hear_at.new.application c.hear_at.result _ _ _
    (goes-silently stands {X = Unit {0}} {E = ScreenError} before (Ok tt) _ _
    (goes-among c.args.self.now i.canvas _ _ i.connections.slots _ i.agenda.list i.asking.list i.agenda.list c.insert.new.self.list c.self.view_is (λ key works there. there) (λ key asks. c.insert.ensures.kept key)))
    c.hear_at.ensures.served

pub returns-in_err-insert-clause-served : goal.returns-in_err-insert-clause-served
returns-in_err-insert-clause-served g c = goes-silently g.A.Application.stands c.args.application.now c.from_residual.result _ _ (goes-is c.args.self.now _ (first_of (search rules, cc)))
