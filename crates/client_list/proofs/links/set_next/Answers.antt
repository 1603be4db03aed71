use Rattle.client_list.proofs.LinkLemmas.{next_written}
use Rattle.client_list.proofs.links.set_next.Goals as goal

pub returns-in-Some-clause-changed : goal.returns-in-Some-clause-changed
returns-in-Some-clause-changed g c =
    next_written c.args.nodes.now c.position.inside.key c.in-Some.position c.index_mut.result.now c.position.view_is c.index_mut.ensures.value c.args.first.now c.args.position c.args.next c.in-Some.is
