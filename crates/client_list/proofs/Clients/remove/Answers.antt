use Rattle.std.proofs.Common.{None, Some, subst, sym, ◌∙◌}
use Rattle.client_list.specs.Connected.{IsPositionOf}
use Rattle.client_list.specs.Links.{IsByNumber}
use Rattle.client_list.proofs.NumberLemmas.{value_found, without-filter}
use Rattle.client_list.proofs.CallLemmas.{shows, has_node, value_there, is_listed}
use Rattle.client_list.proofs.TakenLemmas.{previous_there, next_there, taken_held, taken_pairs, taken_positions, taken_by_number}
use Rattle.client_list.proofs.ByNumberLemmas.{found_by_number}
use Rattle.client_list.proofs.Clients.remove.Goals as goal

pub returns-in_default-clause-value : goal.returns-in_default-clause-value
returns-in_default-clause-value g c = found_by_number c.self.inside.by_number c.args.self.now (subst (IsByNumber c.self.inside.by_number) c.self.view_is c.self.invariant.1) c.args.number None (is_listed c.self.inside.nodes c.self.inside.first c.self.inside.last c.args.self.now (shows c.self.inside.nodes c.self.inside.first c.self.inside.last c.args.self.now c.self.invariant.0 c.self.view_is)) c.in_default.ensures.value

pub remove-node-requires : goal.remove-node-requires
remove-node-requires g c =
    let found : IsPositionOf c.args.self.now c.args.number c.in-Some.position = found_by_number c.self.inside.by_number c.args.self.now (subst (IsByNumber c.self.inside.by_number) c.self.view_is c.self.invariant.1) c.args.number (Some c.in-Some.position) (is_listed c.self.inside.nodes c.self.inside.first c.self.inside.last c.args.self.now (shows c.self.inside.nodes c.self.inside.first c.self.inside.last c.args.self.now c.self.invariant.0 c.self.view_is)) c.in-Some.ensures.value in
    has_node c.self.inside.nodes c.self.inside.first c.self.inside.last c.args.self.now (shows c.self.inside.nodes c.self.inside.first c.self.inside.last c.args.self.now c.self.invariant.0 c.self.view_is) c.in-Some.position c.position.inside.key found.0 c.position.view_is

pub set_next-requires : goal.set_next-requires
set_next-requires g c =
    let found : IsPositionOf c.args.self.now c.args.number c.in-Some.position = found_by_number c.self.inside.by_number c.args.self.now (subst (IsByNumber c.self.inside.by_number) c.self.view_is c.self.invariant.1) c.args.number (Some c.in-Some.position) (is_listed c.self.inside.nodes c.self.inside.first c.self.inside.last c.args.self.now (shows c.self.inside.nodes c.self.inside.first c.self.inside.last c.args.self.now c.self.invariant.0 c.self.view_is)) c.in-Some.ensures.value in
    previous_there c.self.inside.nodes c.remove-node.new.self c.self.inside.first c.self.inside.last c.args.self.now (shows c.self.inside.nodes c.self.inside.first c.self.inside.last c.args.self.now c.self.invariant.0 c.self.view_is) c.args.number c.in-Some.position c.position.inside.key c.position.view_is found c.remove-node.result c.remove-node.ensures.value c.remove-node.ensures.updates

pub set_previous-requires : goal.set_previous-requires
set_previous-requires g c =
    let found : IsPositionOf c.args.self.now c.args.number c.in-Some.position = found_by_number c.self.inside.by_number c.args.self.now (subst (IsByNumber c.self.inside.by_number) c.self.view_is c.self.invariant.1) c.args.number (Some c.in-Some.position) (is_listed c.self.inside.nodes c.self.inside.first c.self.inside.last c.args.self.now (shows c.self.inside.nodes c.self.inside.first c.self.inside.last c.args.self.now c.self.invariant.0 c.self.view_is)) c.in-Some.ensures.value in
    next_there c.self.inside.nodes c.remove-node.new.self c.self.inside.first c.self.inside.last c.args.self.now (shows c.self.inside.nodes c.self.inside.first c.self.inside.last c.args.self.now c.self.invariant.0 c.self.view_is) c.args.number c.in-Some.position c.position.inside.key c.position.view_is found c.remove-node.result c.remove-node.ensures.value c.remove-node.ensures.updates c.set_next.new.nodes c.set_next.new.first c.set_next.ensures.changed

pub invariant_of-self-2 : goal.invariant_of-self-2
invariant_of-self-2 g c =
    let found : IsPositionOf c.args.self.now c.args.number c.in-Some.position = found_by_number c.self.inside.by_number c.args.self.now (subst (IsByNumber c.self.inside.by_number) c.self.view_is c.self.invariant.1) c.args.number (Some c.in-Some.position) (is_listed c.self.inside.nodes c.self.inside.first c.self.inside.last c.args.self.now (shows c.self.inside.nodes c.self.inside.first c.self.inside.last c.args.self.now c.self.invariant.0 c.self.view_is)) c.in-Some.ensures.value in (
      taken_held c.self.inside.nodes c.remove-node.new.self c.self.inside.first c.self.inside.last c.args.self.now (shows c.self.inside.nodes c.self.inside.first c.self.inside.last c.args.self.now c.self.invariant.0 c.self.view_is) c.args.number c.in-Some.position c.position.inside.key c.position.view_is found c.remove-node.result c.remove-node.ensures.value c.remove-node.ensures.updates c.set_next.new.nodes c.set_next.new.first c.set_next.ensures.changed c.set_previous.new.nodes c.set_previous.new.last c.set_previous.ensures.changed c.remove-node.ensures.len c.set_next.ensures.len c.set_previous.ensures.len,
      taken_by_number c.self.inside.nodes c.remove-node.new.self c.self.inside.first c.self.inside.last c.args.self.now (shows c.self.inside.nodes c.self.inside.first c.self.inside.last c.args.self.now c.self.invariant.0 c.self.view_is) c.args.number c.in-Some.position c.position.inside.key c.position.view_is found c.remove-node.result c.remove-node.ensures.value c.remove-node.ensures.updates c.set_next.new.nodes c.set_next.new.first c.set_next.ensures.changed c.set_previous.new.nodes c.set_previous.new.last c.set_previous.ensures.changed c.remove-node.ensures.len c.set_next.ensures.len c.set_previous.ensures.len c.self.inside.by_number c.remove.new.self (subst (IsByNumber c.self.inside.by_number) c.self.view_is c.self.invariant.1) c.remove.ensures.updates,
      tt,
    )

pub returns-clause-value : goal.returns-clause-value
returns-clause-value g c =
    let found : IsPositionOf c.args.self.now c.args.number c.in-Some.position = found_by_number c.self.inside.by_number c.args.self.now (subst (IsByNumber c.self.inside.by_number) c.self.view_is c.self.invariant.1) c.args.number (Some c.in-Some.position) (is_listed c.self.inside.nodes c.self.inside.first c.self.inside.last c.args.self.now (shows c.self.inside.nodes c.self.inside.first c.self.inside.last c.args.self.now c.self.invariant.0 c.self.view_is)) c.in-Some.ensures.value in
    sym (value_found c.args.self.now c.in-Some.position c.args.number found)
    ∙ value_there c.self.inside.nodes c.self.inside.first c.self.inside.last c.args.self.now (shows c.self.inside.nodes c.self.inside.first c.self.inside.last c.args.self.now c.self.invariant.0 c.self.view_is) c.in-Some.position c.position.inside.key found.0 c.position.view_is c.remove-node.result c.remove-node.ensures.value

pub returns-clause-pairs : goal.returns-clause-pairs
returns-clause-pairs g c =
    let found : IsPositionOf c.args.self.now c.args.number c.in-Some.position = found_by_number c.self.inside.by_number c.args.self.now (subst (IsByNumber c.self.inside.by_number) c.self.view_is c.self.invariant.1) c.args.number (Some c.in-Some.position) (is_listed c.self.inside.nodes c.self.inside.first c.self.inside.last c.args.self.now (shows c.self.inside.nodes c.self.inside.first c.self.inside.last c.args.self.now c.self.invariant.0 c.self.view_is)) c.in-Some.ensures.value in
    taken_pairs c.self.inside.nodes c.remove-node.new.self c.self.inside.first c.self.inside.last c.args.self.now (shows c.self.inside.nodes c.self.inside.first c.self.inside.last c.args.self.now c.self.invariant.0 c.self.view_is) c.args.number c.in-Some.position c.position.inside.key c.position.view_is found c.remove-node.result c.remove-node.ensures.value c.remove-node.ensures.updates c.set_next.new.nodes c.set_next.new.first c.set_next.ensures.changed c.set_previous.new.nodes c.set_previous.new.last c.set_previous.ensures.changed c.remove-node.ensures.len c.set_next.ensures.len c.set_previous.ensures.len

pub returns-clause-positions : goal.returns-clause-positions
returns-clause-positions g c =
    let found : IsPositionOf c.args.self.now c.args.number c.in-Some.position = found_by_number c.self.inside.by_number c.args.self.now (subst (IsByNumber c.self.inside.by_number) c.self.view_is c.self.invariant.1) c.args.number (Some c.in-Some.position) (is_listed c.self.inside.nodes c.self.inside.first c.self.inside.last c.args.self.now (shows c.self.inside.nodes c.self.inside.first c.self.inside.last c.args.self.now c.self.invariant.0 c.self.view_is)) c.in-Some.ensures.value in
    taken_positions c.self.inside.nodes c.remove-node.new.self c.self.inside.first c.self.inside.last c.args.self.now (shows c.self.inside.nodes c.self.inside.first c.self.inside.last c.args.self.now c.self.invariant.0 c.self.view_is) c.args.number c.in-Some.position c.position.inside.key c.position.view_is found c.remove-node.result c.remove-node.ensures.value c.remove-node.ensures.updates c.set_next.new.nodes c.set_next.new.first c.set_next.ensures.changed c.set_previous.new.nodes c.set_previous.new.last c.set_previous.ensures.changed c.remove-node.ensures.len c.set_next.ensures.len c.set_previous.ensures.len

pub returns-clause-others : goal.returns-clause-others
returns-clause-others g c =
    let found : IsPositionOf c.args.self.now c.args.number c.in-Some.position = found_by_number c.self.inside.by_number c.args.self.now (subst (IsByNumber c.self.inside.by_number) c.self.view_is c.self.invariant.1) c.args.number (Some c.in-Some.position) (is_listed c.self.inside.nodes c.self.inside.first c.self.inside.last c.args.self.now (shows c.self.inside.nodes c.self.inside.first c.self.inside.last c.args.self.now c.self.invariant.0 c.self.view_is)) c.in-Some.ensures.value in
    taken_pairs c.self.inside.nodes c.remove-node.new.self c.self.inside.first c.self.inside.last c.args.self.now (shows c.self.inside.nodes c.self.inside.first c.self.inside.last c.args.self.now c.self.invariant.0 c.self.view_is) c.args.number c.in-Some.position c.position.inside.key c.position.view_is found c.remove-node.result c.remove-node.ensures.value c.remove-node.ensures.updates c.set_next.new.nodes c.set_next.new.first c.set_next.ensures.changed c.set_previous.new.nodes c.set_previous.new.last c.set_previous.ensures.changed c.remove-node.ensures.len c.set_next.ensures.len c.set_previous.ensures.len
    ∙ without-filter c.args.self.now.pairs c.args.number (is_listed c.self.inside.nodes c.self.inside.first c.self.inside.last c.args.self.now (shows c.self.inside.nodes c.self.inside.first c.self.inside.last c.args.self.now c.self.invariant.0 c.self.view_is)).numbers
