use Rattle.serving.specs.Telling.{Stays}
use Rattle.serving.proofs.application.tell_departed.Given as goal

abbrev pub invariant-loop : goal.invariant-loop
invariant-loop g l = Stays g.A.Application.stands l.fn.application l.application
