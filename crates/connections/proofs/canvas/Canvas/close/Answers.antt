use Rattle.std.proofs.Common.{refl, ap, ◌∙◌, subst, ◌∷◌, []}
use Rattle.screen.specs.Alone.{nothing_to_say}
use Rattle.screen.specs.declared.Event.TheVariants.{Close}
use Rattle.connections.specs.Drawing.{Surface}
use Rattle.connections.specs.Recorded.{RecordsMore}
use Rattle.connections.proofs.Recorded.{records-told}
use Rattle.connections.proofs.canvas.Canvas.close.Goals as goal

pub returns-clause-recorded : goal.returns-clause-recorded
returns-clause-recorded c = λ config list h.
    let event = Close c.args.number in
    subst (λ (x : Surface). RecordsMore config list (event ∷ []) x.scribed c.closed.new.self) c.self.view_is
    (records-told (λ _. nothing_to_say) tt event config list _ _ (λ a. refl) (c.in_ok-close.ensures.answer config list (ap (λ (x : Surface). x.screen) c.self.view_is ∙ h)) c.closed.ensures)
