use Rattle.std.proofs.Common.{refl, sym, ap, ◌∙◌, subst, ◌∷◌, []}
use Rattle.screen.specs.Alone.{gives}
use Rattle.screen.specs.declared.Event.TheVariants.{Connect}
use Rattle.connections.specs.Drawing.{Surface}
use Rattle.connections.specs.Recorded.{RecordsMore}
use Rattle.connections.proofs.Recorded.{records-told}
use Rattle.connections.proofs.canvas.Canvas.connect.Goals as goal

pub returns-clause-recorded : goal.returns-clause-recorded
returns-clause-recorded c = λ config list h.
    let event = Connect c.args.number in
    subst (λ (x : Surface). RecordsMore config list (event ∷ []) c.args.self.now.scribed x.scribed) (sym c.share_with_second.ensures)
    (subst (λ (x : Surface). RecordsMore config list (event ∷ []) x.scribed c.connected.new.self) c.self.view_is
    (records-told gives c.in_ok-version.version event config list _ _ (λ a. refl) (c.in_ok-version.ensures.answer config list (ap (λ (x : Surface). x.screen) c.self.view_is ∙ h)) c.connected.ensures))
