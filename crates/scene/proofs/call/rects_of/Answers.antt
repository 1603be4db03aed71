use Rattle.std.proofs.Common.{◌≡◌, List, subst, IfOk}
use Rattle.region.specs.declared.Rect.{Rect}
use Rattle.region.specs.OrderLemmas.{in_order-plain}
use Rattle.scene.proofs.call.rects_of.Goals as goal

pub returns : goal.returns
returns c = subst (λ (l : List Rect). IfOk c.rects.result (λ rects. rects ≡ l)) (in_order-plain c.args.region.now.list) c.rects.ensures.order
