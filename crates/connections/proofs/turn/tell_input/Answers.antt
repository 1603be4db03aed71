use Rattle.std.proofs.Common.{List, [], ◌∷◌, ◌++◌, Option, Ok, sym, ap, subst}
use Rattle.std.specs.Option.{option_to_list}
use Rattle.std.proofs.lemmas.Result.{err_from_is_err_and}
use Rattle.screen.specs.declared.Input.{Input}
use Rattle.screen.specs.declared.ScreenError.{ScreenError}
use Rattle.held_inputs.specs.Held.{room_release}
use Rattle.connections.specs.Telling.{said_by, told_for, IsTold}
use Rattle.connections.specs.TellingLemmas.{IsToldAll, told-nothing, told-one, told-part, told-stays}
use Rattle.connections.proofs.turn.tell_input.Goals as goal
use Rattle.connections.proofs.turn.tell_input.Goals.{in-Some+in_ok-on_input+in-Text-1, in-Some+in_ok-on_input+in-Key-1, in_default}

pub returns-in_err-on_input-clause-told : goal.returns-in_err-on_input-clause-told
returns-in_err-on_input-clause-told g c =
    let stands = g.A.Application.stands in
    let v = c.number-viewer.result in
    let input = c.args.input.now in
    let held = c.args.connection.now.held in
    let before = c.args.application.now in
    let error = err_from_is_err_and c.from_residual.result c.from_residual.ensures.1 in
    subst (λ n. IsTold stands (said_by n (told_for held input)) before c.on_input.new.self c.from_residual.result) c.number-viewer.ensures
    (told-part stands before c.on_input.new.self v (c.in-Some.release ∷ []) (input ∷ []) (told_for held input) c.from_residual.result error.0 error.1
    (ap (λ (o : Option Input). option_to_list o ++ input ∷ []) c.in-Some.ensures.release)
    (told-one stands before before c.on_input.new.self v [] c.in-Some.release c.on_input.ensures.told (told-nothing stands {X = Unit {0}} {E = ScreenError} before (Ok tt))))

pub returns-clause-told : goal.returns-clause-told
returns-clause-told g c =
    let stands = g.A.Application.stands in
    let v = c.number-viewer.result in
    let input = c.args.input.now in
    let held = c.args.connection.now.held in
    let before = c.args.application.now in
    let released : List Input = option_to_list (room_release held.keys) in
    let first : IsToldAll stands (said_by v released) before c.match-hold.application = elim c.match-hold.branch [
      | in-Some+in_ok-on_input+in-Text-1 w ↦ subst (λ a. IsToldAll stands (said_by v released) before a) (sym w.application-is)
          (subst (λ (o : Option Input). IsToldAll stands (said_by v (option_to_list o)) before w.on_input.new.self) w.in-Some.ensures.release
          (told-one stands before before w.on_input.new.self v [] w.in-Some.release w.on_input.ensures.told (told-nothing stands {X = Unit {0}} {E = ScreenError} before (Ok tt))))
      | in-Some+in_ok-on_input+in-Key-1 w ↦ subst (λ a. IsToldAll stands (said_by v released) before a) (sym w.application-is)
          (subst (λ (o : Option Input). IsToldAll stands (said_by v (option_to_list o)) before w.on_input.new.self) w.in-Some.ensures.release
          (told-one stands before before w.on_input.new.self v [] w.in-Some.release w.on_input.ensures.told (told-nothing stands {X = Unit {0}} {E = ScreenError} before (Ok tt))))
      | in_default w ↦ subst (λ a. IsToldAll stands (said_by v released) before a) (sym w.application-is)
          (subst (λ (o : Option Input). IsToldAll stands (said_by v (option_to_list o)) before before) w.in_default.ensures.release (told-nothing stands {X = Unit {0}} {E = ScreenError} before (Ok tt)))
    ] in
    subst (λ n. IsTold stands (said_by n (told_for held input)) before c.on_input-2.new.self c.on_input-2.result) c.number-viewer.ensures
    (told-stays stands before c.on_input-2.new.self c.on_input-2.new.self (said_by v (told_for held input)) c.on_input-2.result
    (told-one stands before c.match-hold.application c.on_input-2.new.self v released input c.on_input-2.ensures.told first) (λ inputs h. h))
