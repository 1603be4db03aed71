use Rattle.std.proofs.Common.{◌+◌, ◌-◌, Err, length, arith, take, drop, refl, sym, ap, ◌∙◌, subst}
use Rattle.std.proofs.lemmas.List.{length-drop, take-append-drop, take_all}
use Rattle.screen.specs.declared.ScreenError.{ScreenError}
use Rattle.held_inputs.specs.Held.{Held, after, roomy}
use Rattle.connection.specs.Connection.{ViewerConnection}
use Rattle.connections.specs.Telling.{said_by, told_behind, told_for, IsTold}
use Rattle.connection.specs.Holding.{held_behind}
use Rattle.connection.specs.HoldingLemmas.{held-append, held-more}
use Rattle.connections.specs.TellingLemmas.{told-all, told-on, told-until}
use Rattle.connections.proofs.turn.tell_inputs.Goals as goal

pub returns-in-Err-clause-held : goal.returns-in-Err-clause-held
returns-in-Err-clause-held g c =
    let inv = c.loop-index.invariant in
    let k = c.loop-index.index in
    let inputs = c.args.inputs.now in
    let input = c.index-inputs-index.result in
    let held = c.args.connection.now.held in
    let here = c.tell_input.ensures.held ∙ ap (λ h. after (roomy h) input) inv.held ∙ sym (held-more held inputs k input c.loop-index-test.true (sym c.index-inputs-index.is)) in
    let rest = drop (k + 1) inputs in
    let long = length-drop (k + 1) inputs in
    c.hold_all.ensures.held ∙ ap (held_behind c.tell_input.new.connection.held) (take_all (length inputs - (k + 1)) rest (omega arith)) ∙ ap (λ h. held_behind h rest) here ∙ sym (held-append held (take (k + 1) inputs) (drop (k + 1) inputs)) ∙ ap (held_behind held) (take-append-drop (k + 1) inputs)

pub returns-in-Err-clause-told : goal.returns-in-Err-clause-told
returns-in-Err-clause-told g c =
    let stands = g.A.Application.stands in
    let inv = c.loop-index.invariant in
    let k = c.loop-index.index in
    let inputs = c.args.inputs.now in
    let input = c.index-inputs-index.result in
    let held = c.args.connection.now.held in
    let v = c.args.connection.now.number in
    let before = c.args.application.now in
    let one = subst (λ (h : Held). IsTold stands (said_by v (told_for h input)) c.loop-index.application c.tell_input.new.application c.tell_input.result) inv.held
    (subst (λ n. IsTold stands (said_by n (told_for c.loop-index.connection.held input)) c.loop-index.application c.tell_input.new.application c.tell_input.result)
    (ap (λ (x : ViewerConnection). x.number) inv.same) c.tell_input.ensures.told) in
    told-until stands {Y = Unit {0}} {F = ScreenError} before c.tell_input.new.application v held inputs (k + 1) c.tell_input.result (Err c.in-Err.error) c.in-Err.error refl
    (told-on stands before c.loop-index.application c.tell_input.new.application v held inputs k input c.tell_input.result c.loop-index-test.true (sym c.index-inputs-index.is) inv.told one)

pub loop-index-preserved : goal.loop-index-preserved
loop-index-preserved g c =
    let stands = g.A.Application.stands in
    let inv = c.loop-index.invariant in
    let k = c.loop-index.index in
    let inputs = c.args.inputs.now in
    let input = c.index-inputs-index.result in
    let held = c.args.connection.now.held in
    let v = c.args.connection.now.number in
    let before = c.args.application.now in
    let one = subst (λ (h : Held). IsTold stands (said_by v (told_for h input)) c.loop-index.application c.tell_input.new.application c.tell_input.result) inv.held
    (subst (λ n. IsTold stands (said_by n (told_for c.loop-index.connection.held input)) c.loop-index.application c.tell_input.new.application c.tell_input.result)
    (ap (λ (x : ViewerConnection). x.number) inv.same) c.tell_input.ensures.told) in
    record {
      draws = λ config list since drawn. c.tell_input.ensures.draws config list since (inv.draws config list since drawn);
      same = c.tell_input.ensures.same ∙ ap (λ (x : ViewerConnection). record x { held = c.tell_input.new.connection.held }) inv.same;
      held = c.tell_input.ensures.held ∙ ap (λ h. after (roomy h) input) inv.held ∙ sym (held-more held inputs k input c.loop-index-test.true (sym c.index-inputs-index.is));
      told = told-all stands before c.tell_input.new.application (said_by v (told_behind held (take (k + 1) inputs))) c.tell_input.result c.in_default.field-0 c.in_default.is
          (told-on stands before c.loop-index.application c.tell_input.new.application v held inputs k input c.tell_input.result c.loop-index-test.true (sym c.index-inputs-index.is) inv.told one);
    }
