use Rattle.std.proofs.Common.{◌≡◌, [], ◌∷◌, ◌++◌, ap, ◌∙◌, sym, subst}
use Rattle.std.specs.Prelude.{◌==◌, not}
use Rattle.std.specs.Map.{values_of}
use Rattle.viewer_list.specs.Viewers.{Viewers}
use Rattle.scene.specs.declared.Event.TheVariants.{Close}
use Rattle.scene.specs.Consistent.{IsConsistent, IsSized}
use Rattle.scene.specs.Answers.{scene_after, answer_to}
use Rattle.scene.specs.Alone.{at_size, nothing_to_say, as_answer}
use Rattle.scene.proofs.Connected.{viewer_numbered}
use Rattle.scene.proofs.Found.{not-none}
use Rattle.scene.proofs.Kept.{all-some}
use Rattle.scene.proofs.Calls.{seen, at_config, close-absent, close-there, close-answer_absent, close-answer_there}
use Rattle.scene.proofs.scene.Scene.remove.Goals as goal
use Rattle.scene.proofs.scene.Scene.remove.Goals.{in-Ok, in-Err}

pub invariant_of-self : goal.invariant_of-self
invariant_of-self c = elim c.match-remove.branch [
  | in-Ok w ↦ record {
    accepted = c.self.invariant.accepted;
    sized = rw w.in-Ok.ensures.ok (all-some (IsSized (at_size c.self.inside.picture c.self.inside.config)) (λ pair. not (pair.0 == c.args.number)) c.self.inside.viewers.pairs c.self.invariant.sized);
  }
  | in-Err w ↦ subst (λ (l : Viewers). IsConsistent c.self.inside.config c.self.inside.picture (values_of l.pairs)) (sym w.in-Err.ensures.err) c.self.invariant
]

pub returns-clause-step : goal.returns-clause-step
returns-clause-step c = λ config list h.
    let here = c.self.inside in
    at_config (λ k. seen here.config here.picture c.remove.new.self.pairs ≡ scene_after k (list ++ Close c.args.number ∷ [])) here.config config here.picture here.viewers.pairs list (c.self.view_is ∙ h) (λ k.
    elim c.match-remove.branch [
      | in-Ok w ↦ ap (seen here.config here.picture) w.in-Ok.ensures.ok ∙ close-there here.config list here.picture here.viewers.pairs c.args.number k
      | in-Err w ↦ ap (λ (l : Viewers). seen here.config here.picture l.pairs) w.in-Err.ensures.err ∙ k ∙ close-absent here.config list here.picture here.viewers.pairs c.args.number k w.in-Err.ensures.found
    ])

pub returns-clause-answer : goal.returns-clause-answer
returns-clause-answer c = λ config list h.
    let here = c.self.inside in
    at_config (λ k. as_answer (λ _. nothing_to_say) c.match-remove.result ≡ answer_to k list (Close c.args.number)) here.config config here.picture here.viewers.pairs list (c.self.view_is ∙ h) (λ k.
    elim c.match-remove.branch [
      | in-Ok w ↦ (let there = not-none (viewer_numbered here.viewers.pairs c.args.number) w.in-Ok.ensures.found in rw w.result-is (close-answer_there here.config list here.picture here.viewers.pairs c.args.number there.0 k there.1))
      | in-Err w ↦ rw w.result-is (close-answer_absent here.config list here.picture here.viewers.pairs c.args.number k w.in-Err.ensures.found)
    ])
