use Rattle.replay.specs.Reading.{Grows}
use Rattle.replay.proofs.viewers.Visits.write.Given as goal

abbrev pub invariant-loop-visit : goal.invariant-loop-visit
invariant-loop-visit g l = Grows (g.W.Write.contents l.fn.writer) (g.W.Write.contents l.writer)
