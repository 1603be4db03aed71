use Rattle.std.proofs.Common.{◌+◌, min}
use Rattle.client_list.specs.WalkLemmas.{change_step}
use Rattle.test_parts_calls.proofs.tests.clients.raise_all.Goals as goal

pub loop-position-preserved : goal.loop-position-preserved
loop-position-preserved c =
    change_step
    (λ n. min (n + 1) 4294967295)
    c.args.clients.now
    c.loop-position.clients
    c.loop-position.position
    c.next-position.result
    c.in-Some.at
    c.at_mut.result.now
    c.raise.new.value
    c.loop-position.invariant
    c.in-Some.is
    c.at_mut.ensures.value
    c.raise.ensures
    c.next-position.ensures.position
    c.next-position.ensures.passed
