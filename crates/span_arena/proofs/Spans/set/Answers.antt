use Rattle.std.proofs.Common.{Some, ap, is_some, ◌∙◌}
use Rattle.slab.specs.Slab.{with_value}
use Rattle.slab.proofs.SlabLemmas.{Updates-with_value}
use Rattle.span_arena.specs.Links.{view_of}
use Rattle.span_arena.specs.Arena.{span_of}
use Rattle.span_arena.proofs.HeadLemmas.{span_held, span_lists, span_spans}
use Rattle.span_arena.proofs.CallLemmas.{shows, has_node, spans_for}
use Rattle.span_arena.proofs.Spans.set.Goals as goal

pub index_mut-requires : goal.index_mut-requires
index_mut-requires c = has_node c.self.inside.nodes c.args.self.now (shows c.self.inside.nodes c.args.self.now c.self.invariant c.self.view_is) c.at.inside.key c.args.at c.at.view_is c.requires

pub invariant_of-self : goal.invariant_of-self
invariant_of-self c =
    let node = record c.index_mut.result.now { span = c.args.span } in
    span_held c.self.inside.nodes (with_value c.self.inside.nodes c.at.inside.key node) c.at.inside.key c.index_mut.result.now c.args.span c.index_mut.ensures.value (Updates-with_value c.self.inside.nodes c.at.inside.key node (ap is_some c.index_mut.ensures.value)) c.self.invariant

pub returns-clause-spans : goal.returns-clause-spans
returns-clause-spans c =
    let node = record c.index_mut.result.now { span = c.args.span } in
    let shown = shows c.self.inside.nodes c.args.self.now c.self.invariant c.self.view_is in
    let new = with_value c.self.inside.nodes c.at.inside.key node in
    spans_for c.self.inside.nodes c.args.self.now shown (view_of new) c.at.inside.key c.args.at c.at.view_is (Some c.args.span)
    (span_spans c.self.inside.nodes new c.at.inside.key c.index_mut.result.now c.args.span c.index_mut.ensures.value (Updates-with_value c.self.inside.nodes c.at.inside.key node (ap is_some c.index_mut.ensures.value)) (ap is_some (shown.spans c.at.inside.key ∙ ap (span_of c.args.self.now) c.at.view_is) ∙ c.requires))

pub returns-clause-lists : goal.returns-clause-lists
returns-clause-lists c =
    let node = record c.index_mut.result.now { span = c.args.span } in
    let shown = shows c.self.inside.nodes c.args.self.now c.self.invariant c.self.view_is in
    let new = with_value c.self.inside.nodes c.at.inside.key node in
    λ list. span_lists c.self.inside.nodes new c.at.inside.key c.index_mut.result.now c.args.span c.index_mut.ensures.value (Updates-with_value c.self.inside.nodes c.at.inside.key node (ap is_some c.index_mut.ensures.value)) c.self.invariant list ∙ shown.lists list
