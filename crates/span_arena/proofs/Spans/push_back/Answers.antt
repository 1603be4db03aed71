use Rattle.std.proofs.Common.{[]}
use Rattle.span_arena.specs.Arena.{ids_of}
use Rattle.span_arena.specs.ViewLemmas.{ids_there}
use Rattle.slab.specs.Slab.{get}
use Rattle.span_arena.proofs.ChangeLemmas.{linked}
use Rattle.span_arena.proofs.CallLemmas.{same_held, shows_more, some_ring, ring_for, end_ring, placed_held, placed_lists, placed_spans, placed_fresh}
use Rattle.span_arena.proofs.Spans.push_back.Goals as goal

pub invariant_of-self : goal.invariant_of-self
invariant_of-self c = same_held c.self.inside.nodes c.reserve.new.self c.self.invariant c.in_err-reserve.ensures.rest_kept

pub put-requires-clause-linked : goal.put-requires-clause-linked
put-requires-clause-linked c =
    let shown = shows_more c.self.inside.nodes c.reserve.new.self c.args.self.now c.self.invariant c.self.view_is c.in_ok-reserve.ensures.rest_kept in
    let there = some_ring c.reserve.new.self c.args.self.now shown c.list.inside.key c.args.list c.list.view_is c.requires in
    (_, linked (get c.reserve.new.self) c.list.inside.key there.0 [] (end_ring c.reserve.new.self c.args.self.now shown c.list.inside.key there.0 there.1))

pub invariant_of-self-2 : goal.invariant_of-self-2
invariant_of-self-2 c =
    let shown = shows_more c.self.inside.nodes c.reserve.new.self c.args.self.now c.self.invariant c.self.view_is c.in_ok-reserve.ensures.rest_kept in
    let there = some_ring c.reserve.new.self c.args.self.now shown c.list.inside.key c.args.list c.list.view_is c.requires in
    placed_held c.reserve.new.self c.args.self.now shown c.put.new.nodes c.list.inside.key there.0 [] (end_ring c.reserve.new.self c.args.self.now shown c.list.inside.key there.0 there.1) c.put.result c.args.span c.put.ensures.put

pub returns-clause-fresh : goal.returns-clause-fresh
returns-clause-fresh c =
    let shown = shows_more c.self.inside.nodes c.reserve.new.self c.args.self.now c.self.invariant c.self.view_is c.in_ok-reserve.ensures.rest_kept in
    let there = some_ring c.reserve.new.self c.args.self.now shown c.list.inside.key c.args.list c.list.view_is c.requires in
    placed_fresh c.reserve.new.self c.args.self.now shown c.put.new.nodes c.list.inside.key there.0 [] (end_ring c.reserve.new.self c.args.self.now shown c.list.inside.key there.0 there.1) c.put.result c.args.span c.put.ensures.put

pub returns-clause-lists : goal.returns-clause-lists
returns-clause-lists c =
    let shown = shows_more c.self.inside.nodes c.reserve.new.self c.args.self.now c.self.invariant c.self.view_is c.in_ok-reserve.ensures.rest_kept in
    let ids = ids_of c.args.self.now c.args.list in
    let ring = ring_for c.reserve.new.self c.args.self.now shown c.list.inside.key c.args.list c.list.view_is ids (ids_there c.args.self.now c.args.list c.requires) in
    placed_lists c.reserve.new.self c.args.self.now shown c.put.new.nodes c.list.inside.key ids [] (end_ring c.reserve.new.self c.args.self.now shown c.list.inside.key ids ring) c.put.result c.args.span c.put.ensures.put c.args.list c.list.view_is

pub returns-clause-spans : goal.returns-clause-spans
returns-clause-spans c =
    let shown = shows_more c.self.inside.nodes c.reserve.new.self c.args.self.now c.self.invariant c.self.view_is c.in_ok-reserve.ensures.rest_kept in
    let there = some_ring c.reserve.new.self c.args.self.now shown c.list.inside.key c.args.list c.list.view_is c.requires in
    placed_spans c.reserve.new.self c.args.self.now shown c.put.new.nodes c.list.inside.key there.0 [] (end_ring c.reserve.new.self c.args.self.now shown c.list.inside.key there.0 there.1) c.put.result c.args.span c.put.ensures.put
