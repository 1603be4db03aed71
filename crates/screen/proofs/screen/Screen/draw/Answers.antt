use Rattle.std.proofs.Common.{◌≡◌, ◌∷◌, ◌++◌, [], ℕ, List, None, sym, ◌∙◌, ap}
use Rattle.std.specs.Prelude.{option_map}
use Rattle.scene.specs.declared.Event.{Event}
use Rattle.scene.specs.Alone.{nothing_to_say}
use Rattle.scene.specs.Answers.{answer_to, SceneState}
use Rattle.scene.specs.Calls.{call_refusal, event_of}
use Rattle.screen.specs.HappeningLemmas.{one-happens}
use Rattle.screen.proofs.GoesOn.{goes_on, scene-is, told-unrefused, tells-memory, drawing-due, drawing-happened}
use Rattle.screen.proofs.screen.Screen.draw.Goals as goal

pub returns-clause-step : goal.returns-clause-step
returns-clause-step c = λ config list h.
    let event = event_of c.args.drawing.now in
    let copy = c.in_ok-event.event in
    let was = c.self.inside.events.events.items in
    let is = c.self.view_is ∙ h in
    let scene = scene-is c.self.inside.scene was config list is in
    goes_on config list event copy c.self.inside.scene c.draw.new.self was c.push.new.self.events.items is
    (c.in_ok-draw.ensures.step config list scene)
    (drawing-happened c.args.drawing.now (answer_to config list event) (told-unrefused (λ _. nothing_to_say) c.in_ok-draw.field-0 (answer_to config list event) (c.in_ok-draw.ensures.answer config list scene)))
    (c.push.ensures ∙ ap (option_map (λ (es : List Event). es ++ copy ∷ [])) c.in_ok-make_room.ensures.same)
    (λ kept. c.in_ok-event.ensures kept)

pub returns-clause-happened : goal.returns-clause-happened
returns-clause-happened c = λ config list h.
    let event = event_of c.args.drawing.now in
    let scene = scene-is c.self.inside.scene c.self.inside.events.events.items config list (c.self.view_is ∙ h) in
    one-happens config list event
    (drawing-happened c.args.drawing.now (answer_to config list event) (told-unrefused (λ _. nothing_to_say) c.in_ok-draw.field-0 (answer_to config list event) (c.in_ok-draw.ensures.answer config list scene)))

pub returns-in_err-make_room-clause-answer : goal.returns-in_err-make_room-clause-answer
returns-in_err-make_room-clause-answer c = λ config list h.
    let d = c.args.drawing.now in
    let here = c.self.inside.scene in
    let scene = scene-is here c.self.inside.events.events.items config list (c.self.view_is ∙ h) in
    let none : call_refusal here.picture.width here.picture.height d ≡ None =
    ap (λ (w : ℕ). call_refusal w here.picture.height d) (sym c.width.ensures) ∙ ap (λ (n : ℕ). call_refusal c.width.result n d) (sym c.height.ensures) ∙ sym c.in_default.ensures in
    tells-memory (λ _. nothing_to_say) c.from_residual-in_err-make_room.result (answer_to config list (event_of d))
    (drawing-due config list d ∙ ap (λ (s : SceneState). call_refusal s.picture.width s.picture.height d) (sym scene) ∙ none)
    c.from_residual-in_err-make_room.ensures.1
