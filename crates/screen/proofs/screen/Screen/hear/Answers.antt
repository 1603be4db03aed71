use Rattle.std.proofs.Common.{◌∷◌, ◌++◌, [], List, sym, ◌∙◌, ap}
use Rattle.std.specs.Prelude.{option_map}
use Rattle.scene.specs.declared.Event.{Event}
use Rattle.scene.specs.declared.Event.TheVariants.{Hear}
use Rattle.scene.specs.Refusals.{refusal}
use Rattle.scene.specs.Answers.{answer_to}
use Rattle.screen.proofs.GoesOn.{goes_on, scene-is, told-unrefused, tells-error, tells-memory}
use Rattle.screen.proofs.screen.Screen.hear.Goals as goal

pub returns-clause-step : goal.returns-clause-step
returns-clause-step c = λ config list h.
    let event = Hear c.args.number c.args.piece.now in
    let copy = Hear c.args.number c.in_ok-copy.copy in
    let was = c.self.inside.events.events.items in
    let is = c.self.view_is ∙ h in
    let scene = scene-is c.self.inside.scene was config list is in
    goes_on config list event copy c.self.inside.scene c.hear.new.self was c.push.new.self.events.items is
    (c.in_ok-answer.ensures.step config list (c.in_ok-find.ensures.same ∙ scene))
    (told-unrefused (λ a. a) c.in_ok-answer.answer (answer_to config list event) (c.in_ok-answer.ensures.answer config list (c.in_ok-find.ensures.same ∙ scene)))
    (c.push.ensures ∙ ap (option_map (λ (es : List Event). es ++ copy ∷ [])) c.in_ok-make_room.ensures.same)
    (λ kept. ap (λ l. Hear c.args.number l) (c.in_ok-copy.ensures kept))

pub returns-in_err-find-clause-answer : goal.returns-in_err-find-clause-answer
returns-in_err-find-clause-answer c = λ config list h.
    let scene = scene-is c.self.inside.scene c.self.inside.events.events.items config list (c.self.view_is ∙ h) in
    tells-error (λ a. a) c.from_residual.result (answer_to config list (Hear c.args.number c.args.piece.now)) c.in_err-find.field-0.0
    (c.refusals_are_due.ensures config list (Hear c.args.number c.args.piece.now) ∙ sym (ap (λ s. refusal s (Hear c.args.number c.args.piece.now)) scene) ∙ c.in_err-find.ensures.found) c.from_residual.ensures.1

pub returns-in_err-copy-clause-answer : goal.returns-in_err-copy-clause-answer
returns-in_err-copy-clause-answer c = λ config list h.
    let scene = scene-is c.self.inside.scene c.self.inside.events.events.items config list (c.self.view_is ∙ h) in
    tells-memory (λ a. a) c.from_residual-in_err-copy.result (answer_to config list (Hear c.args.number c.args.piece.now))
    (c.refusals_are_due.ensures config list (Hear c.args.number c.args.piece.now) ∙ sym (ap (λ s. refusal s (Hear c.args.number c.args.piece.now)) scene) ∙ c.in_ok-find.ensures.found) c.from_residual-in_err-copy.ensures.1

pub returns-in_err-make_room-clause-answer : goal.returns-in_err-make_room-clause-answer
returns-in_err-make_room-clause-answer c = λ config list h.
    let scene = scene-is c.self.inside.scene c.self.inside.events.events.items config list (c.self.view_is ∙ h) in
    tells-memory (λ a. a) c.from_residual-in_err-make_room.result (answer_to config list (Hear c.args.number c.args.piece.now))
    (c.refusals_are_due.ensures config list (Hear c.args.number c.args.piece.now) ∙ sym (ap (λ s. refusal s (Hear c.args.number c.args.piece.now)) scene) ∙ c.in_ok-find.ensures.found) c.from_residual-in_err-make_room.ensures.1
