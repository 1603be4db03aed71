use Rattle.std.proofs.Common.{◌∷◌, ◌++◌, [], List, refl, sym, ◌∙◌, ap}
use Rattle.std.specs.Prelude.{option_map}
use Rattle.scene.specs.declared.Event.{Event}
use Rattle.scene.specs.declared.Event.TheVariants.{Connect}
use Rattle.scene.specs.Alone.{gives}
use Rattle.scene.specs.Refusals.{refusal}
use Rattle.scene.specs.Answers.{answer_to}
use Rattle.screen.proofs.GoesOn.{goes_on, scene-is, told-unrefused, tells-error, tells-memory}
use Rattle.screen.proofs.screen.Screen.connect.Goals as goal

pub returns-clause-step : goal.returns-clause-step
returns-clause-step c = λ config list h.
    let event = Connect c.args.number in
    let copy = Connect c.args.number in
    let was = c.self.inside.events.events.items in
    let is = c.self.view_is ∙ h in
    let scene = scene-is c.self.inside.scene was config list is in
    goes_on config list event copy c.self.inside.scene c.connect.new.self was c.push.new.self.events.items is
    (c.in_ok-version.ensures.step config list scene)
    (told-unrefused gives c.in_ok-version.version (answer_to config list event) (c.in_ok-version.ensures.answer config list scene))
    (c.push.ensures ∙ ap (option_map (λ (es : List Event). es ++ copy ∷ [])) c.in_ok-make_room_for.ensures.same)
    (λ kept. refl)

pub returns-in_err-check_free-clause-answer : goal.returns-in_err-check_free-clause-answer
returns-in_err-check_free-clause-answer c = λ config list h.
    let scene = scene-is c.self.inside.scene c.self.inside.events.events.items config list (c.self.view_is ∙ h) in
    tells-error gives c.from_residual.result (answer_to config list (Connect c.args.number)) c.in_err-check_free.field-0.0
    (c.refusals_are_due.ensures config list (Connect c.args.number) ∙ sym (ap (λ s. refusal s (Connect c.args.number)) scene) ∙ c.in_err-check_free.ensures) c.from_residual.ensures.1

pub returns-in_err-make_room_for-clause-answer : goal.returns-in_err-make_room_for-clause-answer
returns-in_err-make_room_for-clause-answer c = λ config list h.
    let scene = scene-is c.self.inside.scene c.self.inside.events.events.items config list (c.self.view_is ∙ h) in
    tells-memory gives c.from_residual-in_err-make_room_for.result (answer_to config list (Connect c.args.number))
    (c.refusals_are_due.ensures config list (Connect c.args.number) ∙ sym (ap (λ s. refusal s (Connect c.args.number)) scene) ∙ c.in_ok-check_free.ensures) c.from_residual-in_err-make_room_for.ensures.1
