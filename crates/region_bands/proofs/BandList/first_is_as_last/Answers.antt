use Rattle.region_bands.proofs.CallLemmas.{gap_spans, gap_live, last_live}
use Rattle.region_bands.proofs.SeamLemmas.{above_sub, below_sub, one_live, other_live, seam_yes, seam_no}
use Rattle.region_bands.proofs.BandList.first_is_as_last.Goals as goal

pub last_before-requires-clause-before : goal.last_before-requires-clause-before
last_before-requires-clause-before c = gap_spans c.self.inside.spans c.self.inside.lists c.self.inside.gap c.self.inside.left c.args.self.now c.self.invariant c.self.view_is

pub get-last-requires : goal.get-last-requires
get-last-requires c = last_live c.self.inside.spans c.self.inside.lists c.self.inside.gap c.self.inside.left c.args.self.now c.self.invariant c.self.view_is c.in-Some.lists c.in-Some.is c.last_before.result c.last_before.ensures c.in-Some-last_before.above c.in-Some-last_before.is

pub get-first-requires : goal.get-first-requires
get-first-requires c = gap_live c.self.inside.spans c.self.inside.lists c.self.inside.gap c.self.inside.left c.args.self.now c.self.invariant c.self.view_is c.in-Some-gap.below c.in-Some-gap.is

pub returns-in_default-sub-clause-no : goal.returns-in_default-sub-clause-no
returns-in_default-sub-clause-no c = absurd (c.in_default-sub.not-Some _ (above_sub c.self.inside.spans c.self.inside.lists c.self.inside.gap c.self.inside.left c.args.self.now c.self.invariant c.self.view_is c.in-Some.lists c.in-Some.is c.last_before.result c.last_before.ensures c.in-Some-last_before.above c.in-Some-last_before.is c.get-last.result c.get-last.ensures c.in-Some-gap.below c.in-Some-gap.is c.get-first.result c.get-first.ensures))

pub returns-in_default-sub-2-clause-no : goal.returns-in_default-sub-2-clause-no
returns-in_default-sub-2-clause-no c = absurd (c.in_default-sub-2.not-Some _ (below_sub c.self.inside.spans c.self.inside.lists c.self.inside.gap c.self.inside.left c.args.self.now c.self.invariant c.self.view_is c.in-Some.lists c.in-Some.is c.last_before.result c.last_before.ensures c.in-Some-last_before.above c.in-Some-last_before.is c.get-last.result c.get-last.ensures c.in-Some-gap.below c.in-Some-gap.is c.get-first.result c.get-first.ensures))

pub same_intervals-requires-clause-one : goal.same_intervals-requires-clause-one
same_intervals-requires-clause-one c = one_live c.self.inside.spans c.self.inside.lists c.self.inside.gap c.self.inside.left c.args.self.now c.self.invariant c.self.view_is c.in-Some.lists c.in-Some.is c.last_before.result c.last_before.ensures c.in-Some-last_before.above c.in-Some-last_before.is c.get-last.result c.get-last.ensures c.in-Some-gap.below c.in-Some-gap.is c.get-first.result c.get-first.ensures c.in-Some-sub.one c.in-Some-sub.is c.in-Some-sub-2.other c.in-Some-sub-2.is

pub same_intervals-requires-clause-other : goal.same_intervals-requires-clause-other
same_intervals-requires-clause-other c = other_live c.self.inside.spans c.self.inside.lists c.self.inside.gap c.self.inside.left c.args.self.now c.self.invariant c.self.view_is c.in-Some.lists c.in-Some.is c.last_before.result c.last_before.ensures c.in-Some-last_before.above c.in-Some-last_before.is c.get-last.result c.get-last.ensures c.in-Some-gap.below c.in-Some-gap.is c.get-first.result c.get-first.ensures c.in-Some-sub.one c.in-Some-sub.is c.in-Some-sub-2.other c.in-Some-sub-2.is

pub returns-clause-yes : goal.returns-clause-yes
returns-clause-yes c = seam_yes c.self.inside.spans c.self.inside.lists c.self.inside.gap c.self.inside.left c.args.self.now c.self.invariant c.self.view_is c.in-Some.lists c.in-Some.is c.last_before.result c.last_before.ensures c.in-Some-last_before.above c.in-Some-last_before.is c.get-last.result c.get-last.ensures c.in-Some-gap.below c.in-Some-gap.is c.get-first.result c.get-first.ensures c.in-Some-sub.one c.in-Some-sub.is c.in-Some-sub-2.other c.in-Some-sub-2.is c.same_intervals.result c.same_intervals.ensures

pub returns-clause-no : goal.returns-clause-no
returns-clause-no c = seam_no c.self.inside.spans c.self.inside.lists c.self.inside.gap c.self.inside.left c.args.self.now c.self.invariant c.self.view_is c.in-Some.lists c.in-Some.is c.last_before.result c.last_before.ensures c.in-Some-last_before.above c.in-Some-last_before.is c.get-last.result c.get-last.ensures c.in-Some-gap.below c.in-Some-gap.is c.get-first.result c.get-first.ensures c.in-Some-sub.one c.in-Some-sub.is c.in-Some-sub-2.other c.in-Some-sub-2.is c.same_intervals.result c.same_intervals.ensures
