use Rattle.std.proofs.Common.{◌≡◌, ◌≤◌, ◌-◌}
use Rattle.serving.specs.Services.{AreInOrder}
use Rattle.serving.proofs.accepting.serve_callers.Given as goal

abbrev pub invariant-loop-number : goal.invariant-loop-number
invariant-loop-number g l =
    (l.maker.queue ≡ l.server.ends.now.queue) × (l.number ≤ l.viewers) × AreInOrder l.number l.services.items

abbrev pub decreases-loop-number : goal.decreases-loop-number
decreases-loop-number g l = l.viewers - l.number
