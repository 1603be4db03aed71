use Rattle.std.proofs.Common.{◌≡◌, [], ◌∷◌, ◌++◌, List, Ok, length, refl, sym, ap, ◌∙◌, append_assoc, append-nil, subst, arith}
use Rattle.std.proofs.lemmas.Result.{err_from_is_err_and}
use Rattle.screen.specs.declared.Input.{Input}
use Rattle.screen.specs.declared.ScreenError.{ScreenError}
use Rattle.held_inputs.specs.Held.{Held, after, changed, let_go, owed}
use Rattle.connections.specs.Telling.{said_by, releases, IsTold}
use Rattle.connections.specs.TellingLemmas.{told-one, told-part}
use Rattle.connections.proofs.Releasing.{OwesFirst, owes-first, owes-none}
use Rattle.connections.proofs.turn.release.Goals as goal

-- one release more, and those that are left
more-told : (first : List Input) (held now then : Held) (input : Input) → first ++ releases held ≡ releases then → now ≡ after held input → OwesFirst held input → (first ++ input ∷ []) ++ releases now ≡ releases then
more-told first held now then input parts is owes =
    append_assoc first (input ∷ []) (releases now) ∙ ap (λ h. first ++ (input ∷ releases h)) is ∙ ap (λ l. first ++ l) (sym owes.0) ∙ parts

pub loop-input-preserved : goal.loop-input-preserved
loop-input-preserved g c =
    let inv = c.loop-input.invariant in
    let held = c.loop-input.held in
    let input = c.in-Some.input in
    let owes : OwesFirst held input = owes-first held input (ap (owed held) (sym inv.nothing) ∙ sym c.in-Some.ensures.owed) in
    let now : c.change.new.self ≡ after held input = c.change.ensures ∙ ap (changed held) c.of.ensures in
    record {
      draws = λ config list since drawn. c.on_input.ensures.draws config list since (inv.draws config list since drawn);
      nothing = inv.nothing ∙ sym owes.1 ∙ ap let_go (sym now);
      told = (
        inv.told.0 ++ input ∷ [],
        more-told inv.told.0 held c.change.new.self c.args.held input inv.told.1 now owes,
        told-one g.A.Application.stands c.args.application.now c.loop-input.application c.on_input.new.self c.args.viewer inv.told.0 input c.on_input.ensures.told inv.told.2,
      );
    }

pub loop-input-smaller : goal.loop-input-smaller
loop-input-smaller g c =
    let held = c.loop-input.held in
    let input = c.in-Some.input in
    let owes : OwesFirst held input = owes-first held input (ap (owed held) (sym c.loop-input.invariant.nothing) ∙ sym c.in-Some.ensures.owed) in
    let now : c.change.new.self ≡ after held input = c.change.ensures ∙ ap (changed held) c.of.ensures in
    let less : length (releases held) ≡ length (input ∷ releases c.change.new.self) = ap (λ l. length l) owes.0 ∙ ap (λ h. length (input ∷ releases h)) (sym now) in
    omega arith

pub returns-in_err-on_input-clause-told : goal.returns-in_err-on_input-clause-told
returns-in_err-on_input-clause-told g c =
    let inv = c.loop-input.invariant in
    let held = c.loop-input.held in
    let input = c.in-Some.input in
    let error = err_from_is_err_and c.from_residual.result c.from_residual.ensures.1 in
    let owes : OwesFirst held input = owes-first held input (ap (owed held) (sym inv.nothing) ∙ sym c.in-Some.ensures.owed) in
    told-part g.A.Application.stands c.args.application.now c.on_input.new.self c.args.viewer (inv.told.0 ++ input ∷ []) (releases (after held input)) (releases c.args.held) c.from_residual.result error.0 error.1
    (more-told inv.told.0 held (after held input) c.args.held input inv.told.1 refl owes)
    (told-one g.A.Application.stands c.args.application.now c.loop-input.application c.on_input.new.self c.args.viewer inv.told.0 input c.on_input.ensures.told inv.told.2)

pub returns-clause-told : goal.returns-clause-told
returns-clause-told g c =
    let inv = c.loop-input.invariant in
    let held = c.loop-input.held in
    let none : releases held ≡ [] = owes-none held (ap (owed held) (sym inv.nothing) ∙ sym c.in_default.ensures.owed) in
    let all : inv.told.0 ≡ releases c.args.held = sym (append-nil inv.told.0) ∙ ap (λ l. inv.told.0 ++ l) (sym none) ∙ inv.told.1 in
    subst (λ (l : List Input). IsTold {X = Unit {0}} {E = ScreenError} g.A.Application.stands (said_by c.args.viewer l) c.args.application.now c.loop-input.application (Ok tt)) all inv.told.2
