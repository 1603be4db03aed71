use Rattle.std.proofs.Common.{Ok, Err, refl, ap, ◌∙◌, subst, ◌∷◌, []}
use Rattle.std.specs.Prelude.{◌||◌}
use Rattle.screen.specs.Calls.{event_of}
use Rattle.connections.specs.Drawing.{Surface}
use Rattle.connections.specs.Recorded.{RecordsMore}
use Rattle.connections.specs.RecordedLemmas.{lines-one, records-lines}
use Rattle.connections.proofs.Drawing.{draws_from, nobodys}
use Rattle.connections.proofs.canvas.Canvas.draw.Goals as goal

pub returns-in_err-draw-clause-draws : goal.returns-in_err-draw-clause-draws
returns-in_err-draw-clause-draws c =
    draws_from {X = Unit {0}} (Err c.in_err-draw.field-0.0) c.args.self.now _ c.self.inside.screen c.self.inside.recorder c.self.inside.has_drawn c.self.inside.has_noticed _ c.self.view_is (nobodys c.args.drawing.now) (λ _ _ _. tt) c.in_err-draw.ensures.err refl (λ _ _ _. tt) refl
    (ap (λ b. b || c.self.inside.has_noticed) c.is_notice.ensures)

pub returns-clause-draws : goal.returns-clause-draws
returns-clause-draws c =
    let event = event_of c.args.drawing.now in
    draws_from {X = Unit {0}} (Ok tt) c.args.self.now _ c.self.inside.screen c.self.inside.recorder c.self.inside.has_drawn c.self.inside.has_noticed _ c.self.view_is (nobodys c.args.drawing.now) c.in_ok-draw.ensures.step tt tt
    (λ config list h. records-lines config list (event ∷ []) c.self.inside.recorder c.drew.new.self (c.in_ok-draw.ensures.happened config list h) (lines-one event c.self.inside.recorder c.drew.new.self c.drew.ensures)) refl
    (ap (λ b. b || c.self.inside.has_noticed) c.is_notice.ensures)

pub returns-clause-recorded : goal.returns-clause-recorded
returns-clause-recorded c = λ config list h.
    let event = event_of c.args.drawing.now in
    subst (λ (x : Surface). RecordsMore config list (event ∷ []) x.scribed c.drew.new.self) c.self.view_is
    (records-lines config list (event ∷ []) c.self.inside.recorder c.drew.new.self (c.in_ok-draw.ensures.happened config list (ap (λ (x : Surface). x.screen) c.self.view_is ∙ h)) (lines-one event c.self.inside.recorder c.drew.new.self c.drew.ensures))
