use Rattle.std.proofs.Common.{ap, is_some}
use Rattle.span_arena.proofs.FreeLemmas.{emptied_none, first_in, fewer_left, emptied_more, none_left, freed_lists, freed_spans, freed_spare}
use Rattle.span_arena.proofs.Spans.free_list.Goals as goal

pub loop-at-init : goal.loop-at-init
loop-at-init c = emptied_none c.args.self.now c.args.list c.requires

pub first-requires : goal.first-requires
first-requires c = ap is_some c.loop-at.invariant.is

pub remove-requires : goal.remove-requires
remove-requires c = first_in c.args.self.now c.loop-at.self c.args.list c.loop-at.invariant c.first.result c.first.ensures c.in-Some.at c.in-Some.is

pub loop-at-smaller : goal.loop-at-smaller
loop-at-smaller c = fewer_left c.args.self.now c.loop-at.self c.args.list c.loop-at.invariant c.first.result c.first.ensures c.in-Some.at c.in-Some.is c.remove.new.self c.remove.ensures.lists c.remove.ensures.spans c.remove.ensures.spare

pub loop-at-preserved : goal.loop-at-preserved
loop-at-preserved c = emptied_more c.args.self.now c.loop-at.self c.args.list c.loop-at.invariant c.first.result c.first.ensures c.in-Some.at c.in-Some.is c.remove.new.self c.remove.ensures.lists c.remove.ensures.spans c.remove.ensures.spare

pub drop_head-requires : goal.drop_head-requires
drop_head-requires c = none_left c.args.self.now c.loop-at.self c.args.list c.loop-at.invariant c.first.result c.first.ensures c.in_default.is

pub returns-clause-lists : goal.returns-clause-lists
returns-clause-lists c = freed_lists c.args.self.now c.loop-at.self c.args.list c.loop-at.invariant c.first.result c.first.ensures c.in_default.is c.drop_head.new.self c.drop_head.ensures.lists c.drop_head.ensures.spans c.drop_head.ensures.spare

pub returns-clause-spans : goal.returns-clause-spans
returns-clause-spans c = freed_spans c.args.self.now c.loop-at.self c.args.list c.loop-at.invariant c.first.result c.first.ensures c.in_default.is c.drop_head.new.self c.drop_head.ensures.lists c.drop_head.ensures.spans c.drop_head.ensures.spare

pub returns-clause-spare : goal.returns-clause-spare
returns-clause-spare c = freed_spare c.args.self.now c.loop-at.self c.args.list c.loop-at.invariant c.first.result c.first.ensures c.in_default.is c.drop_head.new.self c.drop_head.ensures.lists c.drop_head.ensures.spans c.drop_head.ensures.spare
