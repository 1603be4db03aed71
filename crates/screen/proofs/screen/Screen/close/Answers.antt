use Rattle.std.proofs.Common.{◌∷◌, ◌++◌, [], List, refl, sym, ◌∙◌, ap}
use Rattle.std.specs.Prelude.{option_map, is_none}
use Rattle.scene.specs.declared.Event.{Event}
use Rattle.scene.specs.declared.Event.TheVariants.{Close}
use Rattle.scene.specs.declared.Answer.{Answer}
use Rattle.scene.specs.Alone.{nothing_to_say}
use Rattle.scene.specs.Refusals.{refusal}
use Rattle.scene.specs.Answers.{answer_to}
use Rattle.screen.proofs.GoesOn.{goes_on, scene-is, tells-error, tells-memory}
use Rattle.screen.proofs.screen.Screen.close.Goals as goal

pub returns-clause-step : goal.returns-clause-step
returns-clause-step c = λ config list h.
    let event = Close c.args.number in
    let copy = Close c.args.number in
    let was = c.self.inside.events.events.items in
    let is = c.self.view_is ∙ h in
    let scene = scene-is c.self.inside.scene was config list is in
    goes_on config list event copy c.self.inside.scene c.close.new.self was c.push.new.self.events.items is
    (c.in_ok-close.ensures.step config list (c.in_ok-find.ensures.same ∙ scene))
    (ap (λ (a : Answer). is_none a.refused) (sym (c.in_ok-close.ensures.answer config list (c.in_ok-find.ensures.same ∙ scene))))
    (c.push.ensures ∙ ap (option_map (λ (es : List Event). es ++ copy ∷ [])) c.in_ok-make_room_for.ensures.same)
    (λ kept. refl)

pub returns-in_err-find-clause-answer : goal.returns-in_err-find-clause-answer
returns-in_err-find-clause-answer c = λ config list h.
    let scene = scene-is c.self.inside.scene c.self.inside.events.events.items config list (c.self.view_is ∙ h) in
    tells-error (λ _. nothing_to_say) c.from_residual.result (answer_to config list (Close c.args.number)) c.in_err-find.field-0.0
    (c.refusals_are_due.ensures config list (Close c.args.number) ∙ sym (ap (λ s. refusal s (Close c.args.number)) scene) ∙ c.in_err-find.ensures.found) c.from_residual.ensures.1

pub returns-in_err-make_room_for-clause-answer : goal.returns-in_err-make_room_for-clause-answer
returns-in_err-make_room_for-clause-answer c = λ config list h.
    let scene = scene-is c.self.inside.scene c.self.inside.events.events.items config list (c.self.view_is ∙ h) in
    tells-memory (λ _. nothing_to_say) c.from_residual-in_err-make_room_for.result (answer_to config list (Close c.args.number))
    (c.refusals_are_due.ensures config list (Close c.args.number) ∙ sym (ap (λ s. refusal s (Close c.args.number)) scene) ∙ c.in_ok-find.ensures.found) c.from_residual-in_err-make_room_for.ensures.1
