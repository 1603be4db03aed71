use Rattle.std.proofs.Common.{sym, ◌∙◌, refl}
use Rattle.scene.specs.declared.Event.TheVariants.{Write}
use Rattle.framebuffer.specs.Blocks.{block_rect}
use Rattle.scene.proofs.Framed.{written-on, still-consistent}
use Rattle.scene.proofs.Drawn.{state-unseen}
use Rattle.scene.proofs.scene.Scene.write_pixels.Goals as goal

pub invariant_of-self-2 : goal.invariant_of-self-2
invariant_of-self-2 c = still-consistent c.self.inside.config c.self.inside.picture c.write.new.self _ _ c.in_ok-write.ensures.ok c.self.invariant

pub returns-clause-step : goal.returns-clause-step
returns-clause-step c = λ config list h.
    let here = c.self.inside in
    state-unseen config here.config here.picture c.write.new.self here.viewers.pairs (Write c.args.rect c.args.colours.now) list refl c.in_ok-block.ensures.refusal
    (written-on here.picture c.write.new.self c.args.rect (block_rect c.in_ok-block.block) c.args.colours.now c.in_ok-write.ensures.ok (sym c.in_ok-block.ensures.is))
    (λ s. refl) (c.self.view_is ∙ h)
