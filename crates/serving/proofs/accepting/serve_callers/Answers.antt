use Rattle.std.proofs.Common.{arith, refl}
use Rattle.serving.proofs.Services.{more_are, own-order}
use Rattle.serving.proofs.accepting.serve_callers.Goals as goal

pub loop-number-preserved : goal.loop-number-preserved
loop-number-preserved g c =
    let i = c.loop-number.invariant in (
      grind (arith),
      grind (arith),
      more_are _ _ _ _ _ _ c.in_ok-push.ensures.items i.2.0 refl c.start.ensures c.next_caller.ensures.order,
    )

pub returns-in-Ok-None-clause-order : goal.returns-in-Ok-None-clause-order
returns-in-Ok-None-clause-order g c = own-order _ _ c.next_caller.ensures.order

pub returns-clause-order : goal.returns-clause-order
returns-clause-order g c = own-order _ _ c.loop-number.invariant.2
