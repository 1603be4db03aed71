use Rattle.std.proofs.Common.{ℕ, ◌++◌, ◌∷◌, Some, subst}
use Rattle.slab.specs.Slab.{get}
use Rattle.span_arena.specs.Arena.{SetsList}
use Rattle.span_arena.specs.Links.{view_of}
use Rattle.span_arena.proofs.ChangeLemmas.{linked}
use Rattle.span_arena.proofs.CallLemmas.{same_held, shows_more, ring_at, placed_held, placed_lists, placed_spans, placed_fresh}
use Rattle.span_arena.proofs.Spans.insert_before.Goals as goal

pub invariant_of-self : goal.invariant_of-self
invariant_of-self c = same_held c.self.inside.nodes c.reserve.new.self c.self.invariant c.in_err-reserve.ensures.rest_kept

pub put-requires-clause-linked : goal.put-requires-clause-linked
put-requires-clause-linked c =
    let shown = shows_more c.self.inside.nodes c.reserve.new.self c.args.self.now c.self.invariant c.self.view_is c.in_ok-reserve.ensures.rest_kept in
    let ring = ring_at c.reserve.new.self c.args.self.now shown c.list.inside.key c.at.inside.key c.args.list c.args.at c.list.view_is c.at.view_is c.requires.0 c.requires.1 c.requires.2 in
    (_, linked (get c.reserve.new.self) c.list.inside.key c.requires.0 (c.at.inside.key ∷ c.requires.1) ring)

pub invariant_of-self-2 : goal.invariant_of-self-2
invariant_of-self-2 c =
    let shown = shows_more c.self.inside.nodes c.reserve.new.self c.args.self.now c.self.invariant c.self.view_is c.in_ok-reserve.ensures.rest_kept in
    let ring = ring_at c.reserve.new.self c.args.self.now shown c.list.inside.key c.at.inside.key c.args.list c.args.at c.list.view_is c.at.view_is c.requires.0 c.requires.1 c.requires.2 in
    placed_held c.reserve.new.self c.args.self.now shown c.put.new.nodes c.list.inside.key c.requires.0 (c.at.inside.key ∷ c.requires.1) ring c.put.result c.args.span c.put.ensures.put

pub returns-clause-fresh : goal.returns-clause-fresh
returns-clause-fresh c =
    let shown = shows_more c.self.inside.nodes c.reserve.new.self c.args.self.now c.self.invariant c.self.view_is c.in_ok-reserve.ensures.rest_kept in
    let ring = ring_at c.reserve.new.self c.args.self.now shown c.list.inside.key c.at.inside.key c.args.list c.args.at c.list.view_is c.at.view_is c.requires.0 c.requires.1 c.requires.2 in
    placed_fresh c.reserve.new.self c.args.self.now shown c.put.new.nodes c.list.inside.key c.requires.0 (c.at.inside.key ∷ c.requires.1) ring c.put.result c.args.span c.put.ensures.put

pub returns-clause-lists : goal.returns-clause-lists
returns-clause-lists c = λ front back is.
    let shown = shows_more c.self.inside.nodes c.reserve.new.self c.args.self.now c.self.invariant c.self.view_is c.in_ok-reserve.ensures.rest_kept in
    let ring = ring_at c.reserve.new.self c.args.self.now shown c.list.inside.key c.at.inside.key c.args.list c.args.at c.list.view_is c.at.view_is front back is in
    subst
    (λ (k : ℕ). SetsList c.args.self.now (view_of c.put.new.nodes) c.args.list (Some (front ++ c.put.result ∷ k ∷ back)))
    c.at.view_is
    (placed_lists c.reserve.new.self c.args.self.now shown c.put.new.nodes c.list.inside.key front (c.at.inside.key ∷ back) ring c.put.result c.args.span c.put.ensures.put c.args.list c.list.view_is)

pub returns-clause-spans : goal.returns-clause-spans
returns-clause-spans c =
    let shown = shows_more c.self.inside.nodes c.reserve.new.self c.args.self.now c.self.invariant c.self.view_is c.in_ok-reserve.ensures.rest_kept in
    let ring = ring_at c.reserve.new.self c.args.self.now shown c.list.inside.key c.at.inside.key c.args.list c.args.at c.list.view_is c.at.view_is c.requires.0 c.requires.1 c.requires.2 in
    placed_spans c.reserve.new.self c.args.self.now shown c.put.new.nodes c.list.inside.key c.requires.0 (c.at.inside.key ∷ c.requires.1) ring c.put.result c.args.span c.put.ensures.put
