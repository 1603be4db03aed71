use Rattle.region.proofs.StackLemmas.{Stacked}
use Rattle.region.proofs.stacking.stack.Given as goal

abbrev pub invariant-loop-rect : goal.invariant-loop-rect
invariant-loop-rect l = Stacked l.fn.first l.fn.rest l.rect-index l.last l.bands
