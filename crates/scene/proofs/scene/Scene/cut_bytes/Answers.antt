use Rattle.std.proofs.Common.{◌≡◌, List, ℕ, Option, Some, IfSome, Err, Result, ap, sym, subst, ◌∙◌, refl}
use Rattle.std.proofs.lemmas.Result.{err_from_is_err_and}
use Rattle.std.specs.Prelude.{option_map}
use Rattle.std.specs.Borrow.{Bor}
use Rattle.std.specs.Fn.{Once}
use Rattle.std.specs.declared.alloc.AllocError.{AllocError}
use Rattle.viewer.specs.Given.{bytes_given}
use Rattle.viewer.specs.declared.cutting.PreparedUpdate.{PreparedUpdate}
use Rattle.viewer_list.specs.Viewers.{IsMadeBefore}
use Rattle.scene.specs.declared.Event.TheVariants.{Cut}
use Rattle.scene.specs.declared.Answer.{Answer}
use Rattle.scene.specs.declared.ScreenError.{ScreenError}
use Rattle.scene.specs.Alone.{gives}
use Rattle.scene.specs.Answers.{SceneState, answer_to}
use Rattle.scene.specs.Refusals.{viewer_at, absence}
use Rattle.scene.proofs.Calls.{tells-ok, tells-memory, tells-due}
use Rattle.scene.proofs.Due.{refused-as-due}
use Rattle.scene.proofs.scene.Scene.cut_bytes.Goals as goal

abbrev view : List ℕ → Answer
view bytes = gives bytes

made-at : {F T : Type 0} (call : Once F (Bor PreparedUpdate × Unit {0}) (Result T AllocError)) (before : F) (cut : Option (List ℕ × T)) (pair : List ℕ × T) → cut ≡ Some pair → IfSome cut (IsMadeBefore call before) → IsMadeBefore call before pair
made-at call before cut pair is made = subst (λ o. IfSome o (IsMadeBefore call before)) is made

pub cut_with-requires-clause-there : goal.cut_with-requires-clause-there
cut_with-requires-clause-there c = ap (λ (s : SceneState). absence (viewer_at s c.args.number)) c.in_ok-find.ensures.same ∙ c.in_ok-find.ensures.found

pub returns-in_err-find-clause-answer : goal.returns-in_err-find-clause-answer
returns-in_err-find-clause-answer c = λ config list h.
    let error = err_from_is_err_and c.from_residual.result c.from_residual.ensures.1 in
    tells-due view c.from_residual.result (answer_to config list (Cut c.args.number)) c.in_err-find.field-0.0 (error.1 ∙ ap (λ (e : ScreenError). Err e) error.2) (refused-as-due config list (Cut c.args.number) ∙ ap (λ (s : SceneState). absence (viewer_at s c.args.number)) (sym h) ∙ c.in_err-find.ensures.found)

pub returns-in_err-bytes-clause-answer : goal.returns-in_err-bytes-clause-answer
returns-in_err-bytes-clause-answer c = λ config list h.
    let error = err_from_is_err_and c.from_residual-in_err-bytes.result c.from_residual-in_err-bytes.ensures.1 in
    tells-memory view _ _ error.0 error.1 error.2 (refused-as-due config list (Cut c.args.number) ∙ ap (λ (s : SceneState). absence (viewer_at s c.args.number)) (sym h) ∙ c.in_ok-find.ensures.found)

pub returns-clause-answer : goal.returns-clause-answer
returns-clause-answer c = λ config list h.
    tells-ok view _ _ c.new.result refl (refused-as-due config list (Cut c.args.number) ∙ ap (λ (s : SceneState). absence (viewer_at s c.args.number)) (sym h) ∙ c.in_ok-find.ensures.found) (ap gives c.new.ensures ∙ ap (λ cut. gives (bytes_given (option_map (λ x. x.0) cut))) (sym c.in-None.is) ∙ c.in_ok-bytes.ensures.answer config list (c.in_ok-find.ensures.same ∙ h))

pub returns-in-Some-clause-answer : goal.returns-in-Some-clause-answer
returns-in-Some-clause-answer c = λ config list h.
    let made = made-at _ _ _ _ c.in-Some.is c.in_ok-bytes.ensures.made in
    let answer = c.in_ok-bytes.ensures.answer config list (c.in_ok-find.ensures.same ∙ h) in
    let encoded : c.in-Some.bytes.items ≡ made.prepared.update = made.made.1 ∙ ap (λ (p : PreparedUpdate). p.update) made.made.2 in
    tells-ok view _ _ c.from_vec.result refl (refused-as-due config list (Cut c.args.number) ∙ ap (λ (s : SceneState). absence (viewer_at s c.args.number)) (sym h) ∙ c.in_ok-find.ensures.found)
    (ap gives (c.from_vec.ensures ∙ encoded ∙ made.update) ∙ ap (λ cut. gives (bytes_given (option_map (λ x. x.0) cut))) (sym c.in-Some.is) ∙ answer)
