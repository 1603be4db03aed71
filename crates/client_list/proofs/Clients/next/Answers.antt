use Rattle.std.proofs.Common.{arith, ◌+◌}
use Rattle.client_list.specs.Connected.{index_of}
use Rattle.client_list.specs.IndexLemmas.{index_within}
use Rattle.client_list.proofs.CallLemmas.{shows, is_listed, slot_is_position, slot_passed, has_node, next_there}
use Rattle.client_list.proofs.Clients.next.Goals as goal

pub index-requires : goal.index-requires
index-requires g c = has_node c.self.inside.nodes c.self.inside.first c.self.inside.last c.args.self.now (shows c.self.inside.nodes c.self.inside.first c.self.inside.last c.args.self.now c.self.invariant.0 c.self.view_is) c.args.position c.position.inside.key c.requires c.position.view_is

pub returns-clause-next : goal.returns-clause-next
returns-clause-next g c = next_there c.self.inside.nodes c.self.inside.first c.self.inside.last c.args.self.now (shows c.self.inside.nodes c.self.inside.first c.self.inside.last c.args.self.now c.self.invariant.0 c.self.view_is) c.args.position c.position.inside.key c.requires c.position.view_is c.index.result.now c.index.ensures

pub returns-clause-position : goal.returns-clause-position
returns-clause-position g c =
    slot_is_position c.args.self.now (index_of c.args.self.now.positions c.args.position + 1) c.index.result.now.next (next_there c.self.inside.nodes c.self.inside.first c.self.inside.last c.args.self.now (shows c.self.inside.nodes c.self.inside.first c.self.inside.last c.args.self.now c.self.invariant.0 c.self.view_is) c.args.position c.position.inside.key c.requires c.position.view_is c.index.result.now c.index.ensures)

pub returns-clause-passed : goal.returns-clause-passed
returns-clause-passed g c =
    slot_passed
    c.args.self.now
    (index_of c.args.self.now.positions c.args.position + 1)
    c.index.result.now.next
    (is_listed c.self.inside.nodes c.self.inside.first c.self.inside.last c.args.self.now (shows c.self.inside.nodes c.self.inside.first c.self.inside.last c.args.self.now c.self.invariant.0 c.self.view_is))
    (omega (arith, index_within c.args.self.now.positions c.args.position c.requires))
    (next_there c.self.inside.nodes c.self.inside.first c.self.inside.last c.args.self.now (shows c.self.inside.nodes c.self.inside.first c.self.inside.last c.args.self.now c.self.invariant.0 c.self.view_is) c.args.position c.position.inside.key c.requires c.position.view_is c.index.result.now c.index.ensures)
