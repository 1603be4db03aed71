use Rattle.std.proofs.Common.{sym, ap, ◌∙◌, List, refl}
use Rattle.scene.specs.declared.Event.TheVariants.{CutText}
use Rattle.updates.specs.declared.notices.Notice.TheVariants as notice
use Rattle.viewer_list.specs.Viewers.{viewer_noticed}
use Rattle.scene.specs.Answers.{SceneState}
use Rattle.scene.specs.Alone.{at_size}
use Rattle.scene.proofs.Drawn.{state-drawn, sized-changed}
use Rattle.scene.proofs.scene.Scene.cut_text.Goals as goal

pub invariant_of-self-2 : goal.invariant_of-self-2
invariant_of-self-2 c = record {
  accepted = c.self.invariant.accepted;
  sized = rw c.in_ok-text.ensures.ok (sized-changed (at_size c.self.inside.picture c.self.inside.config) (viewer_noticed (notice.CutText c.args.text.now)) c.self.inside.viewers.pairs (λ s was. record { width = was.width; height = was.height; whole = was.whole; heard = was.heard }) c.self.invariant.sized);
}

pub returns-clause-step : goal.returns-clause-step
returns-clause-step c = λ config list h.
    let here = c.self.inside in
    let after : List _ → SceneState = λ pairs. record { config = here.config; picture = here.picture; viewers = pairs } in
    ap after c.in_ok-text.ensures.ok
    ∙ state-drawn config here.config here.picture here.picture here.viewers.pairs (viewer_noticed (notice.CutText c.args.text.now)) (CutText c.args.text.now) list refl (sym c.text_refusal.ensures ∙ c.in_ok-unless_refused.ensures) refl (λ s. refl) (c.self.view_is ∙ h)
