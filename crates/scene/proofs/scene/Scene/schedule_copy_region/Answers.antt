use Rattle.std.proofs.Common.{◌≡◌, ◌∷◌, [], ◌++◌, List, subst, ◌∙◌, OnOk}
use Rattle.std.specs.Prelude.{FitsSigned}
use Rattle.std.specs.Int.{w32}
use Rattle.std.proofs.lemmas.Int.{to_z-of_z}
use Rattle.region.specs.declared.Rect.{Rect}
use Rattle.scene.specs.declared.Event.TheVariants.{ScheduleCopy}
use Rattle.scene.specs.Answers.{scene_after}
use Rattle.region.specs.OrderLemmas.{in_order-plain}
use Rattle.scene.proofs.scene.Scene.schedule_copy_region.Goals as goal

pub returns-clause-step : goal.returns-clause-step
returns-clause-step c = λ config list h.
    let dx : FitsSigned w32 c.args.dx = c.ranges.dx in
    let dy : FitsSigned w32 c.args.dy = c.ranges.dy in
    let P : List Rect → Type 0 = λ rects. OnOk c.schedule_copy.result (c.schedule_copy.new.self ≡ scene_after config (list ++ ScheduleCopy rects c.args.dx c.args.dy ∷ [])) in
    let done : P c.as_slice.result.now = simp to_z-of_z at (c.schedule_copy.ensures.step config list h) in
    subst P (c.as_slice.ensures ∙ c.in_ok-rects.ensures.order ∙ in_order-plain c.args.region.now.list) done
