use Rattle.std.proofs.Common.{refl, ap, ◌∙◌, subst, ◌∷◌, []}
use Rattle.screen.specs.declared.Answer.{Answer}
use Rattle.screen.specs.declared.Event.TheVariants.{Hear}
use Rattle.connections.specs.Drawing.{Surface}
use Rattle.connections.specs.Recorded.{RecordsMore}
use Rattle.connections.proofs.Recorded.{records-told}
use Rattle.connections.proofs.canvas.Canvas.hear.Goals as goal

pub returns-clause-recorded : goal.returns-clause-recorded
returns-clause-recorded c = λ config list h.
    let event = Hear c.args.number c.args.piece.now in
    subst (λ (x : Surface). RecordsMore config list (event ∷ []) x.scribed c.heard.new.self) c.self.view_is
    (records-told (λ (a : Answer). a) c.in_ok-answer.answer event config list _ _ (λ a. refl) (c.in_ok-answer.ensures.answer config list (ap (λ (x : Surface). x.screen) c.self.view_is ∙ h)) c.heard.ensures)
