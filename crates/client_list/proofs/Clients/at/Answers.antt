use Rattle.client_list.proofs.CallLemmas.{shows, has_node, value_there}
use Rattle.client_list.proofs.Clients.at.Goals as goal

pub index-requires : goal.index-requires
index-requires g c = has_node c.self.inside.nodes c.self.inside.first c.self.inside.last c.args.self.now (shows c.self.inside.nodes c.self.inside.first c.self.inside.last c.args.self.now c.self.invariant.0 c.self.view_is) c.args.position c.position.inside.key c.requires c.position.view_is

pub returns : goal.returns
returns g c = value_there c.self.inside.nodes c.self.inside.first c.self.inside.last c.args.self.now (shows c.self.inside.nodes c.self.inside.first c.self.inside.last c.args.self.now c.self.invariant.0 c.self.view_is) c.args.position c.position.inside.key c.requires c.position.view_is c.index.result.now c.index.ensures
