use Rattle.std.proofs.Common.{ap, ◌∙◌}
use Rattle.serving.proofs.connection.let_go.Goals as goal

pub loop-preserved : goal.loop-preserved
loop-preserved g c = ap (λ s. s.queue) c.let_go.ensures.seat ∙ c.loop.invariant
