use Rattle.std.proofs.Common.{◌≡◌, ◌∷◌, [], ◌++◌, sym, ap, ◌∙◌, Ok, Err, None, refl}
use Rattle.std.proofs.lemmas.Result.{err_from_is_err_and}
use Rattle.scene.specs.declared.Event.TheVariants.{Connect}
use Rattle.scene.specs.declared.Answer.{Answer}
use Rattle.scene.specs.declared.ScreenError.TheVariants as refusals
use Rattle.scene.specs.Answers.{SceneState, scene_after, answer_to}
use Rattle.scene.specs.Alone.{Tells, gives}
use Rattle.viewer.specs.Viewer.{KeptViewer, kept_viewer}
use Rattle.scene.proofs.Framed.{new-on, sized-on, sized-back}
use Rattle.scene.proofs.Connected.{viewer_numbered}
use Rattle.scene.proofs.Found.{test-some, test-none}
use Rattle.scene.proofs.Calls.{seen, at_config, connect-step, connect-answer, in_use-answer, tells-refused, tells-memory, tells-ok}
use Rattle.scene.proofs.scene.Scene.connect.Goals as goal

pub returns-then-has-clause-answer : goal.returns-then-has-clause-answer
returns-then-has-clause-answer c = λ config list h.
    let here = c.self.inside in
    let found = test-some (viewer_numbered here.viewers.pairs c.args.number) (sym c.has.ensures ∙ c.if-has.true) in
    at_config (λ k. Tells gives (Err refusals.NumberInUse) (answer_to k list (Connect c.args.number))) here.config config here.picture here.viewers.pairs list (c.self.view_is ∙ h) (λ k.
    tells-refused gives _ _ refusals.NumberInUse refl (in_use-answer here.config list here.picture here.viewers.pairs c.args.number found.0 k found.1))

pub returns-in_err-let_in-clause-answer : goal.returns-in_err-let_in-clause-answer
returns-in_err-let_in-clause-answer c = λ config list h.
    let here = c.self.inside in
    let error = err_from_is_err_and c.from_residual.result c.from_residual.ensures.1 in
    let away : viewer_numbered here.viewers.pairs c.args.number ≡ None = test-none (viewer_numbered here.viewers.pairs c.args.number) (sym c.has.ensures ∙ c.if-has.false) in
    at_config (λ k. Tells gives c.from_residual.result (answer_to k list (Connect c.args.number))) here.config config here.picture here.viewers.pairs list (c.self.view_is ∙ h) (λ k.
    let answer = connect-answer here.config list here.picture here.viewers.pairs c.args.number k away in
    tells-memory gives _ _ error.0 error.1 error.2 (ap (λ (a : Answer). a.refused) answer))

pub returns-clause-step : goal.returns-clause-step
returns-clause-step c = λ config list h.
    let here = c.self.inside in
    let away : viewer_numbered here.viewers.pairs c.args.number ≡ None = test-none (viewer_numbered here.viewers.pairs c.args.number) (sym c.has.ensures ∙ c.if-has.false) in
    let after : SceneState = seen here.config here.picture c.let_in.new.viewers.pairs in
    at_config (λ k. after ≡ scene_after k (list ++ Connect c.args.number ∷ [])) here.config config here.picture here.viewers.pairs list (c.self.view_is ∙ h) (λ k.
    connect-step here.config list here.picture here.viewers.pairs c.let_in.new.viewers.pairs c.args.number k away
    (c.in_ok-let_in.ensures.entries ∙ ap (λ (v : KeptViewer). here.viewers.pairs ++ (c.args.number, v) ∷ []) (ap kept_viewer (new-on here.picture c.width-width.result c.height-height.result c.width-width.ensures.value c.height-height.ensures.value))))

pub returns-clause-answer : goal.returns-clause-answer
returns-clause-answer c = λ config list h.
    let here = c.self.inside in
    let away : viewer_numbered here.viewers.pairs c.args.number ≡ None = test-none (viewer_numbered here.viewers.pairs c.args.number) (sym c.has.ensures ∙ c.if-has.false) in
    at_config (λ k. Tells gives (Ok c.in_ok-let_in.field-0) (answer_to k list (Connect c.args.number))) here.config config here.picture here.viewers.pairs list (c.self.view_is ∙ h) (λ k.
    let answer = connect-answer here.config list here.picture here.viewers.pairs c.args.number k away in
    tells-ok gives _ _ c.in_ok-let_in.field-0 refl (ap (λ (a : Answer). a.refused) answer) (ap gives c.in_ok-let_in.ensures.version ∙ sym answer))

pub returns-then-has-clause-refused : goal.returns-then-has-clause-refused
returns-then-has-clause-refused c =
    let here = c.self.inside in
    let found = test-some (viewer_numbered here.viewers.pairs c.args.number) (sym c.has.ensures ∙ c.if-has.true) in
    rw (← c.self.view_is, ← found.1) refl

pub invariant_of-self-2 : goal.invariant_of-self-2
invariant_of-self-2 c = record {
  accepted = c.self.invariant.accepted;
  sized =
      let f = c.self.inside.picture in
      let w = c.width-width in
      let h = c.height-height in
      sized-on f w.result h.result w.ensures.value h.ensures.value _ (c.let_in.ensures.sized (sized-back f w.result h.result w.ensures.value h.ensures.value _ c.self.invariant.sized));
}
