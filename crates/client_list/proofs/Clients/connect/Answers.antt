use Rattle.std.proofs.Common.{Some, subst, sym, ◌∙◌, eqb}
use Rattle.std.specs.HashMap as hash
use Rattle.std.proofs.lemmas.Result.{IfOk-at_ok}
use Rattle.client_list.specs.Links.{IsByNumber}
use Rattle.client_list.proofs.NumberLemmas.{was_found, not_found}
use Rattle.client_list.proofs.CallLemmas.{shows}
use Rattle.client_list.proofs.HeldLemmas.{same_held, same_linked, last_has, pushed_held, pushed_pairs, pushed_positions, pushed_by_number}
use Rattle.client_list.proofs.Clients.connect.Goals as goal

pub returns-then-is_some-clause-refused : goal.returns-then-is_some-clause-refused
returns-then-is_some-clause-refused g c =
    let found = was_found c.args.self.now c.args.number c.position_of.result (sym c.is_some.ensures ∙ c.if-is_some.true) c.position_of.ensures.found in
    rw found.1

pub invariant_of-self-in_err-position : goal.invariant_of-self-in_err-position
invariant_of-self-in_err-position g c = (
  same_held c.self.inside.nodes c.add.new.nodes c.self.inside.first c.self.inside.last c.self.invariant.0 c.in_err-position.ensures.values c.in_err-position.ensures.len_kept,
  subst
      (IsByNumber c.reserve.new.self)
      (same_linked c.self.inside.nodes c.add.new.nodes c.self.inside.first c.in_err-position.ensures.values c.in_err-position.ensures.len_kept)
      (λ n. c.reserve.ensures.entries.2 n ∙ c.self.invariant.1 n),
  tt,
)

pub set_next-requires : goal.set_next-requires
set_next-requires g c = last_has c.self.inside.nodes c.add.new.nodes c.self.inside.first c.self.inside.last c.args.self.now (shows c.self.inside.nodes c.self.inside.first c.self.inside.last c.args.self.now c.self.invariant.0 c.self.view_is) c.in_ok-position.position c.args.number c.args.value c.in_ok-position.ensures.was_vacant c.in_ok-position.ensures.updates

pub invariant_of-self-2 : goal.invariant_of-self-2
invariant_of-self-2 g c = (
  pushed_held c.self.inside.nodes c.add.new.nodes c.self.inside.first c.self.inside.last c.args.self.now (shows c.self.inside.nodes c.self.inside.first c.self.inside.last c.args.self.now c.self.invariant.0 c.self.view_is) c.in_ok-position.position c.args.number c.args.value c.in_ok-position.ensures.was_vacant c.in_ok-position.ensures.updates c.set_next.new.nodes c.set_next.new.first c.set_next.ensures.changed c.in_ok-position.ensures.len c.set_next.ensures.len (not_found c.args.self.now c.args.number c.position_of.result (sym c.is_some.ensures ∙ c.if-is_some.false) c.position_of.ensures.found),
  pushed_by_number c.self.inside.nodes c.add.new.nodes c.self.inside.first c.self.inside.last c.args.self.now (shows c.self.inside.nodes c.self.inside.first c.self.inside.last c.args.self.now c.self.invariant.0 c.self.view_is) c.in_ok-position.position c.args.number c.args.value c.in_ok-position.ensures.was_vacant c.in_ok-position.ensures.updates c.set_next.new.nodes c.set_next.new.first c.set_next.ensures.changed c.in_ok-position.ensures.len c.set_next.ensures.len (not_found c.args.self.now c.args.number c.position_of.result (sym c.is_some.ensures ∙ c.if-is_some.false) c.position_of.ensures.found) c.reserve.new.self c.insert-inserted.new.self
      (λ n. c.reserve.ensures.entries.2 n ∙ (subst (IsByNumber c.self.inside.by_number) c.self.view_is c.self.invariant.1) n)
      (IfOk-at_ok (λ _. hash.Updates eqb c.reserve.new.self c.insert-inserted.new.self c.args.number (Some c.in_ok-position.position)) c.unwrap.ensures c.insert-inserted.ensures.updates),
  tt,
)

pub returns-clause-pairs : goal.returns-clause-pairs
returns-clause-pairs g c = pushed_pairs c.self.inside.nodes c.add.new.nodes c.self.inside.first c.self.inside.last c.args.self.now (shows c.self.inside.nodes c.self.inside.first c.self.inside.last c.args.self.now c.self.invariant.0 c.self.view_is) c.in_ok-position.position c.args.number c.args.value c.in_ok-position.ensures.was_vacant c.in_ok-position.ensures.updates c.set_next.new.nodes c.set_next.new.first c.set_next.ensures.changed c.in_ok-position.ensures.len c.set_next.ensures.len (not_found c.args.self.now c.args.number c.position_of.result (sym c.is_some.ensures ∙ c.if-is_some.false) c.position_of.ensures.found)

pub returns-clause-positions : goal.returns-clause-positions
returns-clause-positions g c = (c.in_ok-position.position, pushed_positions c.self.inside.nodes c.add.new.nodes c.self.inside.first c.self.inside.last c.args.self.now (shows c.self.inside.nodes c.self.inside.first c.self.inside.last c.args.self.now c.self.invariant.0 c.self.view_is) c.in_ok-position.position c.args.number c.args.value c.in_ok-position.ensures.was_vacant c.in_ok-position.ensures.updates c.set_next.new.nodes c.set_next.new.first c.set_next.ensures.changed c.in_ok-position.ensures.len c.set_next.ensures.len (not_found c.args.self.now c.args.number c.position_of.result (sym c.is_some.ensures ∙ c.if-is_some.false) c.position_of.ensures.found))
