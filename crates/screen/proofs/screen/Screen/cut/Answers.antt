use Rattle.std.proofs.Common.{ℕ, ◌∷◌, ◌++◌, [], List, Option, refl, sym, ◌∙◌, ap}
use Rattle.std.specs.Prelude.{option_map}
use Rattle.viewer.specs.Given.{bytes_given}
use Rattle.scene.specs.declared.Event.{Event}
use Rattle.scene.specs.declared.Event.TheVariants.{Cut}
use Rattle.scene.specs.declared.Answer.{Answer}
use Rattle.scene.specs.Alone.{gives}
use Rattle.scene.specs.Refusals.{refusal}
use Rattle.scene.specs.Answers.{answer_to}
use Rattle.screen.proofs.GoesOn.{goes_on, stays, scene-is, cut-nothing, cut-something, tells-error, tells-memory}
use Rattle.screen.proofs.screen.Screen.cut.Goals as goal

abbrev given : Option (List ℕ) → Answer
given update = gives (bytes_given update)

pub returns-in_default-clause-step : goal.returns-in_default-clause-step
returns-in_default-clause-step c = λ config list h.
    let event = Cut c.args.number in
    let was = c.self.inside.events.events.items in
    let is = c.self.view_is ∙ h in
    let scene = scene-is c.self.inside.scene was config list is in
    stays config list event c.self.inside.scene c.cut_with.new.self was c.make_room.new.self.events.items is
    (c.in_ok-update.ensures.step config list (c.in_ok-find.ensures.same ∙ scene))
    (cut-nothing c.args.number (answer_to config list event) c.in_ok-update.field-0 (c.in_ok-update.ensures.answer config list (c.in_ok-find.ensures.same ∙ scene)) c.in_default.is)
    c.in_ok-make_room.ensures.same

pub returns-clause-step : goal.returns-clause-step
returns-clause-step c = λ config list h.
    let event = Cut c.args.number in
    let was = c.self.inside.events.events.items in
    let is = c.self.view_is ∙ h in
    let scene = scene-is c.self.inside.scene was config list is in
    goes_on config list event event c.self.inside.scene c.cut_with.new.self was c.push.new.self.events.items is
    (c.in_ok-update.ensures.step config list (c.in_ok-find.ensures.same ∙ scene))
    (cut-something c.args.number (answer_to config list event) c.in_ok-update.field-0 (c.in_ok-update.ensures.answer config list (c.in_ok-find.ensures.same ∙ scene)) _ c.in-Some.is c.in_ok-update.ensures.some)
    (c.push.ensures ∙ ap (option_map (λ (es : List Event). es ++ event ∷ [])) c.in_ok-make_room.ensures.same)
    (λ kept. refl)

pub returns-in_err-find-clause-answer : goal.returns-in_err-find-clause-answer
returns-in_err-find-clause-answer c = λ config list h.
    let scene = scene-is c.self.inside.scene c.self.inside.events.events.items config list (c.self.view_is ∙ h) in
    tells-error given c.from_residual.result (answer_to config list (Cut c.args.number)) c.in_err-find.field-0.0
    (c.refusals_are_due.ensures config list (Cut c.args.number) ∙ sym (ap (λ s. refusal s (Cut c.args.number)) scene) ∙ c.in_err-find.ensures.found) c.from_residual.ensures.1

pub returns-in_err-make_room-clause-answer : goal.returns-in_err-make_room-clause-answer
returns-in_err-make_room-clause-answer c = λ config list h.
    let scene = scene-is c.self.inside.scene c.self.inside.events.events.items config list (c.self.view_is ∙ h) in
    tells-memory given c.from_residual-in_err-make_room.result (answer_to config list (Cut c.args.number))
    (c.refusals_are_due.ensures config list (Cut c.args.number) ∙ sym (ap (λ s. refusal s (Cut c.args.number)) scene) ∙ c.in_ok-find.ensures.found) c.from_residual-in_err-make_room.ensures.1

pub returns-in_err-update-clause-answer : goal.returns-in_err-update-clause-answer
returns-in_err-update-clause-answer c = λ config list h.
    let scene = scene-is c.self.inside.scene c.self.inside.events.events.items config list (c.self.view_is ∙ h) in
    tells-memory given c.from_residual-in_err-update.result (answer_to config list (Cut c.args.number))
    (c.refusals_are_due.ensures config list (Cut c.args.number) ∙ sym (ap (λ s. refusal s (Cut c.args.number)) scene) ∙ c.in_ok-find.ensures.found) c.from_residual-in_err-update.ensures.1
