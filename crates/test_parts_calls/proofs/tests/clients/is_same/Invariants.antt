use Rattle.std.specs.Prelude.{IfSome}
use Rattle.client_list.specs.Connected.{IsPosition}
use Rattle.test_parts_calls.proofs.tests.clients.is_same.Given as goal

abbrev pub invariant-loop-number : goal.invariant-loop-number
invariant-loop-number l = IfSome l.position (IsPosition l.clients)
