use Rattle.slab.specs.Slab.{slab_len}
use Rattle.client_list.proofs.CallLemmas.{shows, pairs_counted, none_counted}
use Rattle.client_list.proofs.Clients.is_empty.Goals as goal

pub returns : goal.returns
returns g c = none_counted c.args.self.now.pairs (slab_len c.self.inside.nodes) c.is_empty.result (pairs_counted c.self.inside.nodes c.self.inside.first c.self.inside.last c.args.self.now (shows c.self.inside.nodes c.self.inside.first c.self.inside.last c.args.self.now c.self.invariant.0 c.self.view_is)) c.is_empty.ensures
