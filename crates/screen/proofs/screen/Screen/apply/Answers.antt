use Rattle.std.proofs.Common.{◌≡◌, ◌∷◌, ◌++◌, [], List, false, OnOk, Result, Ok, Err, refl, sym, ◌∙◌, ap}
use Rattle.std.specs.Prelude.{option_map, is_none}
use Rattle.std.specs.declared.alloc.AllocError.{AllocError}
use Rattle.scene.specs.declared.Event.{Event}
use Rattle.scene.specs.declared.Answer.{Answer}
use Rattle.scene.specs.Refusals.{refusal}
use Rattle.scene.specs.Answers.{answer_to}
use Rattle.scene.specs.History.{has_happened}
use Rattle.screen.proofs.GoesOn.{goes_on, stays, scene-is, refused-unhappened, check-failed, check-passed, answers-memory}
use Rattle.screen.proofs.screen.Screen.apply.Goals as goal

on-ok : {P Q : Type 0} (r : Result Answer AllocError) → (P → Q) → OnOk r P → OnOk r Q
on-ok (Ok a) f h = f h
on-ok (Err e) f h = tt

pub returns-then-is_err-clause-step : goal.returns-then-is_err-clause-step
returns-then-is_err-clause-step c = λ config list h.
    let event = c.args.event.now in
    let was = c.self.inside.events.events.items in
    let is = c.self.view_is ∙ h in
    let scene = scene-is c.self.inside.scene was config list is in
    let found : is_none (refusal c.self.inside.scene event) ≡ false = check-failed c.check.result (refusal c.self.inside.scene event) c.check.ensures (sym (c.if-is_err.ensures).value) in
    let due : (answer_to config list event).refused ≡ refusal c.self.inside.scene event = c.refusals_are_due.ensures config list event ∙ sym (ap (λ s. refusal s event) scene) in
    on-ok c.apply.result
    (λ now. stays config list event c.self.inside.scene c.apply.new.self was was is now
    (refused-unhappened event (answer_to config list event) (ap (λ o. is_none o) due ∙ found)) refl)
    (c.apply.ensures.step config list scene)

pub returns-in_err-make_room_for-clause-answer : goal.returns-in_err-make_room_for-clause-answer
returns-in_err-make_room_for-clause-answer c = λ config list h.
    let event = c.args.event.now in
    let scene = scene-is c.self.inside.scene c.self.inside.events.events.items config list (c.self.view_is ∙ h) in
    answers-memory _ c.from_residual-in_err-make_room_for.result (λ answer. answer ≡ answer_to config list event) (answer_to config list event).refused
    (c.refusals_are_due.ensures config list event ∙ sym (ap (λ s. refusal s event) scene) ∙ check-passed c.check.result (refusal c.self.inside.scene event) c.check.ensures (sym (c.if-is_err.ensures).value))
    c.from_residual-in_err-make_room_for.ensures.1

pub returns-then-not-has_happened-clause-step : goal.returns-then-not-has_happened-clause-step
returns-then-not-has_happened-clause-step c = λ config list h.
    let event = c.args.event.now in
    let was = c.self.inside.events.events.items in
    let is = c.self.view_is ∙ h in
    let scene = scene-is c.self.inside.scene was config list is in
    stays config list event c.self.inside.scene c.apply-2.new.self was c.make_room_for.new.self.events.items is
    (c.in_ok-answer.ensures.step config list scene)
    (ap (has_happened event) (sym (c.in_ok-answer.ensures.answer config list scene)) ∙ sym c.has_happened.ensures ∙ c.if-not-has_happened.true)
    c.in_ok-make_room_for.ensures.same

pub returns-clause-step : goal.returns-clause-step
returns-clause-step c = λ config list h.
    let event = c.args.event.now in
    let was = c.self.inside.events.events.items in
    let is = c.self.view_is ∙ h in
    let scene = scene-is c.self.inside.scene was config list is in
    goes_on config list event c.in_ok-copy.copy c.self.inside.scene c.apply-2.new.self was c.push.new.self.events.items is
    (c.in_ok-answer.ensures.step config list scene)
    (ap (has_happened event) (sym (c.in_ok-answer.ensures.answer config list scene)) ∙ sym c.has_happened.ensures ∙ c.if-not-has_happened.false)
    (c.push.ensures ∙ ap (option_map (λ (es : List Event). es ++ c.in_ok-copy.copy ∷ [])) c.in_ok-make_room_for.ensures.same)
    (λ kept. c.in_ok-copy.ensures kept)
