use Rattle.client_list.proofs.LinkLemmas.{previous_written}
use Rattle.client_list.proofs.links.set_previous.Goals as goal

pub returns-in-Some-clause-changed : goal.returns-in-Some-clause-changed
returns-in-Some-clause-changed g c =
    previous_written c.args.nodes.now c.position.inside.key c.in-Some.position c.index_mut.result.now c.position.view_is c.index_mut.ensures.value c.args.last.now c.args.position c.args.previous c.in-Some.is
