use Rattle.std.proofs.Common.{sym, ap, ◌∙◌}
use Rattle.scene.specs.Answers.{answer_to, SceneState}
use Rattle.scene.specs.Refusals.{refusal}
use Rattle.scene.proofs.Due.{settled-refused, settled-unchanged, with-due, not-memory, refused-as-due}
use Rattle.scene.proofs.Refused.{state-refused, refusal-alone, settled-answer, settled-step}
use Rattle.scene.proofs.scene.Scene.apply.Goals as goal

pub returns-clause-step : goal.returns-clause-step
returns-clause-step c = λ config list h.
    settled-step c.step-given.result c.settled.result (answer_to config list c.args.event.now) c.settled.ensures (c.step-given.ensures.answer config list h) (c.step-given.ensures.step config list h) c.step-given.ensures.err
    (λ e refused same. same ∙ h ∙ sym (state-refused config list c.args.event.now e refused))

pub returns-clause-refused : goal.returns-clause-refused
returns-clause-refused c =
    settled-refused c.step-given.result c.settled.result (refusal c.args.self.now c.args.event.now) c.settled.ensures c.step-given.ensures.refused c.step-given.ensures.accepted (not-memory c.args.self.now c.args.event.now)

pub returns-clause-unchanged : goal.returns-clause-unchanged
returns-clause-unchanged c = settled-unchanged _ c.step-given.result c.settled.result c.settled.ensures c.step-given.ensures.accepted c.step-given.ensures.err

pub returns-clause-answer : goal.returns-clause-answer
returns-clause-answer c = λ config list h.
    with-due _ _ _ _ c.settled.result
    (settled-answer c.step-given.result c.settled.result (answer_to config list c.args.event.now) c.settled.ensures (c.step-given.ensures.answer config list h) (refusal-alone config list c.args.event.now))
    (settled-refused c.step-given.result c.settled.result (refusal c.args.self.now c.args.event.now) c.settled.ensures c.step-given.ensures.refused c.step-given.ensures.accepted (not-memory c.args.self.now c.args.event.now))
    (λ none. refused-as-due config list c.args.event.now ∙ ap (λ (s : SceneState). refusal s c.args.event.now) (sym h) ∙ none)
