use Rattle.std.proofs.Common.{◌+◌, ◌-◌, length, min}
use Rattle.client_list.specs.Connected.{changed, passed}
use Rattle.client_list.specs.WalkLemmas.{IsWalk}
use Rattle.test_parts_calls.proofs.tests.clients.raise_all.Given as goal

-- the viewers that were passed have their new values
abbrev pub invariant-loop-position : goal.invariant-loop-position
invariant-loop-position l = IsWalk l.fn.clients (changed (λ n. min (n + 1) 4294967295) l.fn.clients.pairs) l.clients l.position

abbrev pub decreases-loop-position : goal.decreases-loop-position
decreases-loop-position l = length l.clients.positions - passed l.clients l.position
