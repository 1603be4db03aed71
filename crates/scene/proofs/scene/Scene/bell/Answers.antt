use Rattle.std.proofs.Common.{ap, ◌∙◌, List, refl}
use Rattle.scene.specs.declared.Event.TheVariants.{Bell}
use Rattle.updates.specs.declared.notices.Notice.TheVariants as notice
use Rattle.viewer_list.specs.Viewers.{viewer_noticed}
use Rattle.scene.specs.Answers.{SceneState}
use Rattle.scene.specs.Alone.{at_size}
use Rattle.scene.proofs.Drawn.{state-drawn, sized-changed}
use Rattle.scene.proofs.scene.Scene.bell.Goals as goal

pub invariant_of-self : goal.invariant_of-self
invariant_of-self c = record {
  accepted = c.self.invariant.accepted;
  sized = rw c.ring.ensures (sized-changed (at_size c.self.inside.picture c.self.inside.config) (viewer_noticed notice.Bell) c.self.inside.viewers.pairs (λ s was. record { width = was.width; height = was.height; whole = was.whole; heard = was.heard }) c.self.invariant.sized);
}

pub returns-clause-step : goal.returns-clause-step
returns-clause-step c = λ config list h.
    let here = c.self.inside in
    let after : List _ → SceneState = λ pairs. record { config = here.config; picture = here.picture; viewers = pairs } in
    ap after c.ring.ensures
    ∙ state-drawn config here.config here.picture here.picture here.viewers.pairs (viewer_noticed notice.Bell) Bell list refl refl refl (λ s. refl) (c.self.view_is ∙ h)
