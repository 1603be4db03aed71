use Rattle.span_arena.specs.WalkLemmas.{Walked, ahead}
use Rattle.test_parts_calls.proofs.tests.spans.remove_empty.Given as goal

abbrev pub invariant-loop-place : goal.invariant-loop-place
invariant-loop-place l = Walked l.spans l.list l.place

abbrev pub decreases-loop-place : goal.decreases-loop-place
decreases-loop-place l = ahead l.spans l.list l.place
