use Rattle.std.proofs.Common.{ap, ◌∙◌, subst, ◌∷◌, []}
use Rattle.screen.specs.declared.Event.TheVariants.{Cut}
use Rattle.connections.specs.Drawing.{Surface}
use Rattle.connections.specs.Recorded.{RecordsMore}
use Rattle.connections.proofs.Recorded.{records-cut, records-uncut}
use Rattle.connections.proofs.canvas.Canvas.cut.Goals as goal

pub returns-in_default-clause-recorded : goal.returns-in_default-clause-recorded
returns-in_default-clause-recorded c = λ config list h.
    subst (λ (x : Surface). RecordsMore config list (Cut c.args.number ∷ []) x.scribed c.self.inside.recorder) c.self.view_is
    (records-uncut config list c.args.number c.in_ok-update.field-0 c.self.inside.recorder c.in_default.is (c.in_ok-update.ensures.answer config list (ap (λ (x : Surface). x.screen) c.self.view_is ∙ h)))

pub returns-clause-recorded : goal.returns-clause-recorded
returns-clause-recorded c = λ config list h.
    subst (λ (x : Surface). RecordsMore config list (Cut c.args.number ∷ []) x.scribed c.cut-2.new.self) c.self.view_is
    (records-cut config list c.args.number c.in_ok-update.field-0 _ c.self.inside.recorder c.cut-2.new.self c.in-Some.is c.in_ok-update.ensures.some (c.in_ok-update.ensures.answer config list (ap (λ (x : Surface). x.screen) c.self.view_is ∙ h)) c.cut-2.ensures)
