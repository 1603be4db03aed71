use Rattle.std.proofs.Common.{[], ap, is_some, None}
use Rattle.span_arena.specs.Links.{view_of}
use Rattle.span_arena.proofs.HeadLemmas.{out_held, out_lists, out_spans}
use Rattle.span_arena.proofs.CallLemmas.{shows, ring_for, has_head, lists_for, same_spans_for}
use Rattle.span_arena.proofs.Spans.drop_head.Goals as goal

pub remove-requires : goal.remove-requires
remove-requires c = has_head c.self.inside.nodes c.args.self.now (shows c.self.inside.nodes c.args.self.now c.self.invariant c.self.view_is) c.list.inside.key c.args.list c.list.view_is (ap is_some c.requires)

pub invariant_of-self : goal.invariant_of-self
invariant_of-self c =
    let shown = shows c.self.inside.nodes c.args.self.now c.self.invariant c.self.view_is in
    let ring = ring_for c.self.inside.nodes c.args.self.now shown c.list.inside.key c.args.list c.list.view_is [] c.requires in
    out_held c.self.inside.nodes c.remove.new.self c.list.inside.key ring c.remove.ensures.updates shown.held

pub returns-clause-lists : goal.returns-clause-lists
returns-clause-lists c =
    let shown = shows c.self.inside.nodes c.args.self.now c.self.invariant c.self.view_is in
    let ring = ring_for c.self.inside.nodes c.args.self.now shown c.list.inside.key c.args.list c.list.view_is [] c.requires in
    lists_for c.self.inside.nodes c.args.self.now shown (view_of c.remove.new.self) c.list.inside.key c.args.list c.list.view_is None (out_lists c.self.inside.nodes c.remove.new.self c.list.inside.key ring c.remove.ensures.updates shown.held)

pub returns-clause-spans : goal.returns-clause-spans
returns-clause-spans c =
    let shown = shows c.self.inside.nodes c.args.self.now c.self.invariant c.self.view_is in
    let ring = ring_for c.self.inside.nodes c.args.self.now shown c.list.inside.key c.args.list c.list.view_is [] c.requires in
    same_spans_for c.self.inside.nodes c.args.self.now shown (view_of c.remove.new.self) (out_spans c.self.inside.nodes c.remove.new.self c.list.inside.key ring c.remove.ensures.updates shown.held)
