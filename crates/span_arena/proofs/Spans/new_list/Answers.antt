use Rattle.span_arena.proofs.HeadLemmas.{head_held, head_lists, head_fresh, head_spans}
use Rattle.slab.specs.Slab.{get}
use Rattle.std.proofs.Common.{[], Some, refl, sym, ◌∙◌}
use Rattle.span_arena.proofs.CallLemmas.{same_held, shows_more, lists_for, same_spans_for}
use Rattle.span_arena.specs.Links.{view_of}
use Rattle.span_arena.proofs.Spans.new_list.Goals as goal

pub invariant_of-self : goal.invariant_of-self
invariant_of-self c = same_held c.self.inside.nodes c.reserve.new.self c.self.invariant c.in_err-reserve.ensures.rest_kept

pub invariant_of-self-2 : goal.invariant_of-self-2
invariant_of-self-2 c = head_held (get c.reserve.new.self) (get c.put_head.new.nodes) c.put_head.result c.put_head.ensures.put (same_held c.self.inside.nodes c.reserve.new.self c.self.invariant c.in_ok-reserve.ensures.rest_kept)

pub returns-clause-fresh : goal.returns-clause-fresh
returns-clause-fresh c =
    let shown = shows_more c.self.inside.nodes c.reserve.new.self c.args.self.now c.self.invariant c.self.view_is c.in_ok-reserve.ensures.rest_kept in
    sym (shown.lists c.put_head.result) ∙ head_fresh c.reserve.new.self c.put_head.new.nodes c.put_head.result c.put_head.ensures.put shown.held

pub returns-clause-lists : goal.returns-clause-lists
returns-clause-lists c =
    let shown = shows_more c.self.inside.nodes c.reserve.new.self c.args.self.now c.self.invariant c.self.view_is c.in_ok-reserve.ensures.rest_kept in
    lists_for c.reserve.new.self c.args.self.now shown (view_of c.put_head.new.nodes) c.put_head.result c.put_head.result refl (Some []) (head_lists c.reserve.new.self c.put_head.new.nodes c.put_head.result c.put_head.ensures.put shown.held)

pub returns-clause-spans : goal.returns-clause-spans
returns-clause-spans c =
    let shown = shows_more c.self.inside.nodes c.reserve.new.self c.args.self.now c.self.invariant c.self.view_is c.in_ok-reserve.ensures.rest_kept in
    same_spans_for c.reserve.new.self c.args.self.now shown (view_of c.put_head.new.nodes) (head_spans c.reserve.new.self c.put_head.new.nodes c.put_head.result c.put_head.ensures.put shown.held)
