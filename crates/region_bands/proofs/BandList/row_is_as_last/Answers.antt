use Rattle.region_bands.proofs.CallLemmas.{gap_spans, last_live}
use Rattle.region_bands.proofs.RowLemmas.{row_live, not_last, last_sub, last_list, as_last}
use Rattle.region_bands.proofs.BandList.row_is_as_last.Goals as goal

pub last_before-requires-clause-before : goal.last_before-requires-clause-before
last_before-requires-clause-before c = gap_spans c.self.inside.spans c.self.inside.lists c.self.inside.gap c.self.inside.left c.args.self.now c.self.invariant c.self.view_is

pub get-span-requires : goal.get-span-requires
get-span-requires c = last_live c.self.inside.spans c.self.inside.lists c.self.inside.gap c.self.inside.left c.args.self.now c.self.invariant c.self.view_is c.in-Some.lists c.in-Some.is c.last_before.result c.last_before.ensures c.in-Some-last_before.at c.in-Some-last_before.is

pub returns-in_default-last_before : goal.returns-in_default-last_before
returns-in_default-last_before c = (λ yes. absurd (cc), λ same. absurd (not_last c.self.inside.spans c.self.inside.lists c.self.inside.gap c.self.inside.left c.args.self.now c.self.invariant c.self.view_is c.in-Some.lists c.in-Some.is c.last_before.result c.last_before.ensures c.in_default-last_before.is same))

pub returns-in_default-sub : goal.returns-in_default-sub
returns-in_default-sub c = absurd (c.in_default-sub.not-Some _ (last_sub c.self.inside.spans c.self.inside.lists c.self.inside.gap c.self.inside.left c.args.self.now c.self.invariant c.self.view_is c.in-Some.lists c.in-Some.is c.last_before.result c.last_before.ensures c.in-Some-last_before.at c.in-Some-last_before.is c.get-span.result c.get-span.ensures))

pub same_intervals-requires-clause-one : goal.same_intervals-requires-clause-one
same_intervals-requires-clause-one c = last_list c.self.inside.spans c.self.inside.lists c.self.inside.gap c.self.inside.left c.args.self.now c.self.invariant c.self.view_is c.in-Some.lists c.in-Some.is c.last_before.result c.last_before.ensures c.in-Some-last_before.at c.in-Some-last_before.is c.get-span.result c.get-span.ensures c.in-Some-sub.list c.in-Some-sub.is

pub same_intervals-requires-clause-other : goal.same_intervals-requires-clause-other
same_intervals-requires-clause-other c = row_live c.self.inside.spans c.self.inside.lists c.self.inside.gap c.self.inside.left c.args.self.now c.self.invariant c.self.view_is c.in-Some.lists c.in-Some.is c.last_before.result c.last_before.ensures

pub returns : goal.returns
returns c = as_last c.self.inside.spans c.self.inside.lists c.self.inside.gap c.self.inside.left c.args.self.now c.self.invariant c.self.view_is c.in-Some.lists c.in-Some.is c.last_before.result c.last_before.ensures c.in-Some-last_before.at c.in-Some-last_before.is c.get-span.result c.get-span.ensures c.in-Some-sub.list c.in-Some-sub.is c.same_intervals.result c.same_intervals.ensures
