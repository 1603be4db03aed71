use Rattle.std.proofs.Common.{arith, ap, ◌∙◌, ◌++◌, ◌∷◌, []}
use Rattle.c_screen.proofs.Pieces.{one_rect}
use Rattle.c_screen.proofs.corners.rects_of.Goals as goal

pub loop-corners-preserved : goal.loop-corners-preserved
loop-corners-preserved c = record { made = one_rect c.args.list.now c.loop-corners.corners-index _ _ _ (omega (c.loop-corners-test.true, arith)) c.loop-corners.invariant.made (c.in_ok-push.ensures.items ∙ ap (λ r. c.loop-corners.rects.items ++ r ∷ []) c.rect_of.ensures) }
