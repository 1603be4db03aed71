use Rattle.std.proofs.Common.{arith, ◌∙◌}
use Rattle.serving.proofs.Services.{served}
use Rattle.serving.proofs.accepting.serve_each.Goals as goal

pub returns : goal.returns
returns g c =
    let len = c.turn_others_away.ensures.len in
    let few = c.in_ok-serve_callers.ensures.few in
    served c.args.viewers _ c.args.door.now.may_stop _ c.in_ok-receipts_of.ensures (omega (arith, len, few)) (λ h. len ∙ c.in_ok-serve_callers.ensures.all h)
