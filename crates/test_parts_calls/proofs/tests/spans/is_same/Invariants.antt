use Rattle.span_arena.specs.WalkLemmas.{Walked}
use Rattle.test_parts_calls.proofs.tests.spans.is_same.Given as goal

abbrev pub invariant-loop-start : goal.invariant-loop-start
invariant-loop-start l = Walked l.spans l.list l.place
