use Rattle.std.proofs.Common.{refl, subst}
use Rattle.client_list.specs.Links.{IsByNumber, IsRecent}
use Rattle.client_list.proofs.CallLemmas.{shows, has_node, value_there}
use Rattle.client_list.proofs.HeldLemmas.{set_held, set_view, set_by_number, set_recent}
use Rattle.client_list.proofs.Clients.at_mut.Goals as goal

pub index_mut-node-requires : goal.index_mut-node-requires
index_mut-node-requires g c = has_node c.self.inside.nodes c.self.inside.first c.self.inside.last c.args.self.now (shows c.self.inside.nodes c.self.inside.first c.self.inside.last c.args.self.now c.self.invariant.0 c.self.view_is) c.args.position c.position.inside.key c.requires c.position.view_is

pub invariant_of-self-lent : goal.invariant_of-self-lent
invariant_of-self-lent g c = λ w. (
  set_held c.self.inside.nodes c.self.inside.first c.self.inside.last c.args.self.now (shows c.self.inside.nodes c.self.inside.first c.self.inside.last c.args.self.now c.self.invariant.0 c.self.view_is) c.args.position c.position.inside.key c.position.view_is c.index_mut-node.result.now c.index_mut-node.ensures.value w,
  set_by_number c.self.inside.nodes c.self.inside.first c.self.inside.last c.args.self.now (shows c.self.inside.nodes c.self.inside.first c.self.inside.last c.args.self.now c.self.invariant.0 c.self.view_is) c.args.position c.position.inside.key c.position.view_is c.index_mut-node.result.now c.index_mut-node.ensures.value w c.self.inside.by_number (subst (IsByNumber c.self.inside.by_number) c.self.view_is c.self.invariant.1),
  set_recent c.self.inside.nodes c.self.inside.first c.self.inside.last c.args.self.now (shows c.self.inside.nodes c.self.inside.first c.self.inside.last c.args.self.now c.self.invariant.0 c.self.view_is) c.args.position c.position.inside.key c.position.view_is c.index_mut-node.result.now c.index_mut-node.ensures.value w c.self.inside.recent (subst (IsRecent c.self.inside.recent) c.self.view_is c.self.invariant.2),
)

pub returns : goal.returns
returns g c = (
  (refl, λ w. set_view c.self.inside.nodes c.self.inside.first c.self.inside.last c.args.self.now (shows c.self.inside.nodes c.self.inside.first c.self.inside.last c.args.self.now c.self.invariant.0 c.self.view_is) c.args.position c.position.inside.key c.position.view_is c.index_mut-node.result.now c.index_mut-node.ensures.value w),
  record { writes_back = tt; value = value_there c.self.inside.nodes c.self.inside.first c.self.inside.last c.args.self.now (shows c.self.inside.nodes c.self.inside.first c.self.inside.last c.args.self.now c.self.invariant.0 c.self.view_is) c.args.position c.position.inside.key c.requires c.position.view_is c.index_mut-node.result.now c.index_mut-node.ensures.value },
)
