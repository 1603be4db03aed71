use Rattle.std.proofs.Common.{◌≡◌, ◌∷◌, [], ◌++◌, sym, ap, ◌∙◌, Ok, Err, refl}
use Rattle.std.proofs.lemmas.Option.{none-some}
use Rattle.std.proofs.lemmas.Result.{err_from_is_err_and}
use Rattle.scene.specs.declared.Config.{Config}
use Rattle.scene.specs.declared.Event.TheVariants.{Hear}
use Rattle.scene.specs.declared.Answer.{Answer}
use Rattle.scene.specs.declared.ScreenError.{ScreenError}
use Rattle.viewer.specs.Viewer.{KeptViewer}
use Rattle.scene.specs.Consistent.{IsSized}
use Rattle.scene.specs.Answers.{SceneState, scene_after, answer_to}
use Rattle.scene.specs.Refusals.{viewer_at, absence}
use Rattle.scene.proofs.Due.{refused-as-due}
use Rattle.scene.proofs.Connected.{with_numbered}
use Rattle.scene.proofs.Found.{present-seen}
use Rattle.scene.proofs.Kept.{all-at}
use Rattle.messages.specs.Reading.{rest, new_items}
use Rattle.scene.specs.Alone.{at_size, Tells, answer_of}
use Rattle.scene.proofs.Framed.{items-on, reply-on}
use Rattle.scene.proofs.Calls.{seen, at_config, hear-step, hear-answer, tells-due, tells-memory, tells-ok}
use Rattle.scene.proofs.scene.Scene.hear.Goals as goal

pub hear-requires-clause-there : goal.hear-requires-clause-there
hear-requires-clause-there c = λ none.
    let there = present-seen c.self.inside.config c.self.inside.picture c.self.inside.viewers.pairs c.args.number c.args.self.now (c.self.view_is ∙ c.in_ok-find.ensures.same) c.in_ok-find.ensures.found in none-some there.0 (sym none ∙ sym there.1)

pub returns-in_err-find-clause-answer : goal.returns-in_err-find-clause-answer
returns-in_err-find-clause-answer c = λ config list h.
    let error = err_from_is_err_and c.from_residual.result c.from_residual.ensures.1 in
    tells-due (λ (a : Answer). a) c.from_residual.result (answer_to config list (Hear c.args.number c.args.piece.now)) c.in_err-find.field-0.0 (error.1 ∙ ap (λ (e : ScreenError). Err e) error.2) (refused-as-due config list (Hear c.args.number c.args.piece.now) ∙ ap (λ (s : SceneState). absence (viewer_at s c.args.number)) (sym h) ∙ c.in_err-find.ensures.found)

pub returns-in_err-reply-clause-answer : goal.returns-in_err-reply-clause-answer
returns-in_err-reply-clause-answer c = λ config list h.
    let error = err_from_is_err_and c.from_residual-in_err-reply.result c.from_residual-in_err-reply.ensures.1 in
    tells-memory (λ (a : Answer). a) _ _ error.0 error.1 error.2 (refused-as-due config list (Hear c.args.number c.args.piece.now) ∙ ap (λ (s : SceneState). absence (viewer_at s c.args.number)) (sym h) ∙ c.in_ok-find.ensures.found)

pub returns-clause-step : goal.returns-clause-step
returns-clause-step c = λ config list h.
    let here = c.self.inside in
    let there = present-seen here.config here.picture here.viewers.pairs c.args.number c.args.self.now (c.self.view_is ∙ c.in_ok-find.ensures.same) c.in_ok-find.ensures.found in
    let old : KeptViewer = there.0 in
    let size = all-at (IsSized (at_size here.picture here.config)) here.viewers.pairs c.args.number old c.self.invariant.sized there.1 in
    let now = c.hear.new.self.pairs in
    at_config (λ k. seen here.config here.picture now ≡ scene_after k (list ++ Hear c.args.number c.args.piece.now ∷ [])) here.config config here.picture here.viewers.pairs list (c.self.view_is ∙ c.in_ok-find.ensures.same ∙ h) (λ k.
    hear-step here.config list here.picture here.viewers.pairs now c.args.number old c.args.piece.now k there.1
    (λ before is. c.in_ok-reply.ensures.viewer old before (sym there.1) is
    ∙ ap (with_numbered here.viewers.pairs c.args.number) (items-on here.picture old size (new_items before c.args.piece.now) (record old { heard = rest (before ++ c.args.piece.now) }))))

pub returns-clause-answer : goal.returns-clause-answer
returns-clause-answer c = λ config list h.
    let here = c.self.inside in
    let there = present-seen here.config here.picture here.viewers.pairs c.args.number c.args.self.now (c.self.view_is ∙ c.in_ok-find.ensures.same) c.in_ok-find.ensures.found in
    let old : KeptViewer = there.0 in
    let size = all-at (IsSized (at_size here.picture here.config)) here.viewers.pairs c.args.number old c.self.invariant.sized there.1 in
    let P : Config → Type 0 = λ k. Tells {X = Answer} (λ a. a) (Ok c.with_reply.result) (answer_to k list (Hear c.args.number c.args.piece.now)) in
    at_config P here.config config here.picture here.viewers.pairs list (c.self.view_is ∙ c.in_ok-find.ensures.same ∙ h) (λ k.
    let answer = hear-answer here.config list here.picture here.viewers.pairs c.args.number old c.args.piece.now k there.1 in
    let reply = c.in_ok-reply.ensures.reply old answer.0 (sym there.1) answer.1 in
    tells-ok (λ (a : Answer). a) _ _ c.with_reply.result refl (ap (λ (a : Answer). a.refused) answer.2)
    (c.with_reply.ensures ∙ ap answer_of (reply ∙ reply-on here.picture old size c.as_slice-name.result.now here.config.name answer.0 c.args.piece.now c.as_slice-name.ensures) ∙ sym answer.2))

pub invariant_of-self-2 : goal.invariant_of-self-2
invariant_of-self-2 c = record {
  accepted = c.self.invariant.accepted;
  sized = c.hear.ensures.size c.self.inside.picture.width c.self.inside.picture.height c.self.invariant.sized;
}
