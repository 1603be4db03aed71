use Rattle.std.proofs.Common.{◌≡◌, ℕ, ◌*◌, ◌==◌, true, length, arith, sym, ap, ◌∙◌, List, refl}
use Rattle.std.proofs.lemmas.Bool.Decides.{nat_tests}
use Rattle.region.specs.declared.Rect.{Rect}
use Rattle.region.specs.Region.{in_rect}
use Rattle.framebuffer.specs.declared.blocks.Block.{Block}
use Rattle.framebuffer.specs.PictureLemmas.{empty_block}
use Rattle.scene.specs.declared.Event.TheVariants.{Paint}
use Rattle.copy_schedule.specs.declared.LogEntry.TheVariants as entry
use Rattle.viewer.specs.Viewer.{KeptViewer, viewer_marked}
use Rattle.viewer_list.specs.Viewers.{drawn}
use Rattle.scene.specs.Answers.{SceneState}
use Rattle.framebuffer.specs.Blocks.{block_rect}
use Rattle.scene.specs.Alone.{at_size}
use Rattle.scene.proofs.Framed.{written-on, still-consistent}
use Rattle.scene.proofs.Drawn.{state-drawn, state-nobody, state-empty, sized-told, told-all}
use Rattle.scene.proofs.scene.Scene.paint.Goals as goal
use Rattle.scene.proofs.scene.Scene.paint.Goals.{then-is_empty-via-then-is_empty, then-is_empty-via-else-is_empty+then-is_empty-2}

pub invariant_of-self-2 : goal.invariant_of-self-2
invariant_of-self-2 c =
    let here = c.self.inside in
    let made = told-all _ (entry.Mark c.region_of_rect-region.result) here.viewers.pairs _ _ c.commit.ensures refl c.prepare.ensures.same in
    let k = at_size here.picture here.config in
    still-consistent here.config here.picture c.write-2.new.self _ _ c.in_ok-write-2.ensures.ok
    (record { accepted = c.self.invariant.accepted; sized = rw made (sized-told k (entry.Mark c.region_of_rect-region.result) here.viewers.pairs c.self.invariant.sized) })

pub invariant_of-self-then-is_empty : goal.invariant_of-self-then-is_empty
invariant_of-self-then-is_empty c = still-consistent c.self.inside.config c.self.inside.picture c.write.new.self _ _ c.in_ok-write.ensures.ok c.self.invariant

pub returns-clause-step : goal.returns-clause-step
returns-clause-step c = λ config list h.
    let here = c.self.inside in
    let made = told-all _ (entry.Mark c.region_of_rect-region.result) here.viewers.pairs _ _ c.commit.ensures refl c.prepare.ensures.same in
    let after : List (ℕ × KeptViewer) → SceneState = λ pairs. record { config = here.config; picture = c.write-2.new.self; viewers = pairs } in
    ap after made
    ∙ state-drawn config here.config here.picture c.write-2.new.self here.viewers.pairs (drawn (entry.Mark c.region_of_rect-region.result)) (Paint c.args.rect c.args.colours.now) list refl c.in_ok-block.ensures.refusal
    (written-on here.picture c.write-2.new.self c.args.rect (block_rect c.in_ok-block.block) c.args.colours.now c.in_ok-write-2.ensures.ok (sym c.in_ok-block.ensures.is))
    (λ s. ap (λ set. viewer_marked set s) c.region_of_rect-region.ensures) (c.self.view_is ∙ h)

pub returns-then-is_empty-clause-step : goal.returns-then-is_empty-clause-step
returns-then-is_empty-clause-step c = λ config list h.
    let here = c.self.inside in
    let b = c.in_ok-block.block in
    let painted = written-on here.picture c.write.new.self c.args.rect (block_rect b) c.args.colours.now c.in_ok-write.ensures.ok (sym c.in_ok-block.ensures.is) in
    elim c.then-is_empty.branch [
      | then-is_empty-via-then-is_empty w ↦
          let none = no_place b c.args.colours.now c.in_ok-block.ensures.whole (sym c.is_empty.ensures ∙ w.if-is_empty.true) in
          state-empty config here.config here.picture c.write.new.self here.viewers.pairs (in_rect c.args.rect) (Paint c.args.rect c.args.colours.now) list refl c.in_ok-block.ensures.refusal painted (λ s. refl)
          (λ x y. ap (λ (r : Rect). in_rect r x y) c.in_ok-block.ensures.is ∙ empty_block b none x y) c.self.invariant.sized (c.self.view_is ∙ h)
      | then-is_empty-via-else-is_empty+then-is_empty-2 w ↦
          state-nobody config here.config here.picture c.write.new.self here.viewers.pairs (Paint c.args.rect c.args.colours.now) list (w.is_empty-else-is_empty.ensures.0 w.if-is_empty-2.true) refl c.in_ok-block.ensures.refusal painted (c.self.view_is ∙ h)
    ]
  where
    no_place : (b : Block) (colours : List ℕ) → length colours ≡ b.rows * b.columns → (length colours == 0) ≡ true → b.rows * b.columns ≡ 0
    no_place b colours whole none = let empty : length colours ≡ 0 = grind (arith, nat_tests) in sym whole ∙ empty
