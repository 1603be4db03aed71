use Rattle.std.proofs.Common.{ℕ, sym, ap, ◌∙◌, List, refl}
use Rattle.scene.specs.declared.Event.TheVariants.{Resize}
use Rattle.viewer.specs.Viewer.{KeptViewer, viewer_resized}
use Rattle.scene.specs.Answers.{SceneState}
use Rattle.scene.proofs.Drawn.{state-drawn}
use Rattle.scene.proofs.Resized.{resized-consistent}
use Rattle.scene.proofs.scene.Scene.new_framebuffer.Goals as goal

pub invariant_of-self-2 : goal.invariant_of-self-2
invariant_of-self-2 c = resized-consistent c.self.inside.config c.self.inside.picture c.share.new.self c.args.width c.args.height c.self.inside.viewers.pairs c.resize.new.self.pairs (sym c.size_refusal.ensures ∙ c.in_ok-unless_refused.ensures) (c.share.ensures ∙ c.in_ok-picture.ensures) c.in_ok-resize.ensures.ok c.self.invariant

pub returns-clause-step : goal.returns-clause-step
returns-clause-step c = λ config list h.
    let here = c.self.inside in
    let after : List (ℕ × KeptViewer) → SceneState = λ pairs. record { config = here.config; picture = c.share.new.self; viewers = pairs } in
    ap after c.in_ok-resize.ensures.ok
    ∙ state-drawn config here.config here.picture c.share.new.self here.viewers.pairs (viewer_resized c.args.width c.args.height) (Resize c.args.width c.args.height) list refl (sym c.size_refusal.ensures ∙ c.in_ok-unless_refused.ensures) (c.share.ensures ∙ c.in_ok-picture.ensures) (λ s. refl) (c.self.view_is ∙ h)
