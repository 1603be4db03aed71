use Rattle.std.proofs.Common.{ℕ, sym, ap, ◌∙◌, List, refl}
use Rattle.region.specs.Region.{covers}
use Rattle.std.specs.Map.{values_of}
use Rattle.scene.specs.declared.Event.TheVariants.{Mark}
use Rattle.viewer.specs.Viewer.{KeptViewer, viewer_marked}
use Rattle.viewer_list.specs.SizeLemmas.{marked_size}
use Rattle.scene.specs.Answers.{SceneState}
use Rattle.scene.specs.Alone.{at_size}
use Rattle.scene.proofs.Owing.{region-straight}
use Rattle.scene.proofs.Framed.{sized-back}
use Rattle.scene.proofs.Drawn.{state-drawn, sized-changed}
use Rattle.scene.proofs.scene.Scene.mark_region.Goals as goal

pub owe_region-requires-clause-sized : goal.owe_region-requires-clause-sized
owe_region-requires-clause-sized c = sized-back c.self.inside.picture c.width-width.result c.height-height.result c.width-width.ensures.value c.height-height.ensures.value (values_of c.self.inside.viewers.pairs) c.self.invariant.sized

pub invariant_of-self-2 : goal.invariant_of-self-2
invariant_of-self-2 c = record {
  accepted = c.self.invariant.accepted;
  sized = rw c.in_ok-owe_region.ensures.ok (sized-changed (at_size c.self.inside.picture c.self.inside.config) (viewer_marked (covers c.args.region.now.list)) c.self.inside.viewers.pairs (marked_size c.self.inside.picture.width c.self.inside.picture.height (covers c.args.region.now.list)) c.self.invariant.sized);
}

pub returns-clause-step : goal.returns-clause-step
returns-clause-step c = λ config list h.
    let here = c.self.inside in
    let after : List (ℕ × KeptViewer) → SceneState = λ pairs. record { config = here.config; picture = here.picture; viewers = pairs } in
    ap after c.in_ok-owe_region.ensures.ok
    ∙ state-drawn config here.config here.picture here.picture here.viewers.pairs (viewer_marked (covers c.args.region.now.list)) (Mark c.args.region.now.list) list refl refl refl
    (λ s. ap (λ set. viewer_marked set s) (sym (region-straight c.args.region.now.list c.list_is_canonical.ensures))) (c.self.view_is ∙ h)
