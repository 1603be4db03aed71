use Rattle.std.specs.Prelude.{IsSome}
use Rattle.span_arena.specs.Arena.{list_of}
use Rattle.test_parts_calls.proofs.tests.spans.come_last.Given as goal

abbrev pub invariant-loop-stop : goal.invariant-loop-stop
invariant-loop-stop l = IsSome (list_of l.spans l.list)
