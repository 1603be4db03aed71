use Rattle.region_bands.proofs.SeenLemmas.{seen, holds_for, shows_for}
use Rattle.region_bands.proofs.StepLemmas.{first_there}
use Rattle.region_bands.proofs.CutLemmas.{freed_there, removed_over, removed_first}
use Rattle.region_bands.proofs.CallLemmas.{gap_live, has_sub}
use Rattle.region_bands.proofs.BandList.remove_first.Goals as goal

pub next-next-requires : goal.next-next-requires
next-next-requires c = gap_live c.self.inside.spans c.self.inside.lists c.self.inside.gap c.self.inside.left c.args.self.now c.self.invariant c.self.view_is c.in-Some-gap.at c.in-Some-gap.is

pub unreachable-requires-in_default-sub : goal.unreachable-requires-in_default-sub
unreachable-requires-in_default-sub c =
    let sub = has_sub c.self.inside.spans c.self.inside.lists c.self.inside.gap c.self.inside.left c.args.self.now c.self.invariant c.self.view_is c.in-Some-gap.at c.in-Some-gap.is c.take_span-span.result c.take_span-span.ensures.span in
    c.in_default-sub.not-Some sub.0 sub.1

pub free-requires : goal.free-requires
free-requires c =
    let h = holds_for c.self.inside.spans c.self.inside.lists c.self.inside.gap c.self.inside.left c.args.self.now c.self.invariant c.self.view_is c.in-Some.lists c.in-Some.is in
    let there = first_there c.args.self.now.below c.requires in
    freed_there c.self.inside.spans c.in-Some.lists.bands c.in-Some.lists.row c.self.inside.gap c.self.inside.left c.args.self.now h c.in-Some-gap.at c.in-Some-gap.is there.0 there.1 there.2 c.take_span-span.new.spans c.take_span-span.result c.take_span-span.ensures.span c.take_span-span.ensures.taken c.take_span-span.ensures.others c.in-Some-sub.list c.in-Some-sub.is

pub first_under-self-inside-requires : goal.first_under-self-inside-requires
first_under-self-inside-requires c =
    let h = holds_for c.self.inside.spans c.self.inside.lists c.self.inside.gap c.self.inside.left c.args.self.now c.self.invariant c.self.view_is c.in-Some.lists c.in-Some.is in
    let there = first_there c.args.self.now.below c.requires in
    removed_over c.self.inside.spans c.in-Some.lists.bands c.in-Some.lists.row c.self.inside.gap c.self.inside.left c.args.self.now h c.in-Some-gap.at c.in-Some-gap.is there.0 there.1 there.2 c.take_span-span.new.spans c.take_span-span.result c.take_span-span.ensures.span c.take_span-span.ensures.taken c.take_span-span.ensures.others c.in-Some-sub.list c.in-Some-sub.is c.free.new.spans c.free.ensures.others c.free.ensures.sound c.next-next.result c.next-next.ensures

pub invariant_of-self : goal.invariant_of-self
invariant_of-self c =
    let h = holds_for c.self.inside.spans c.self.inside.lists c.self.inside.gap c.self.inside.left c.args.self.now c.self.invariant c.self.view_is c.in-Some.lists c.in-Some.is in
    let there = first_there c.args.self.now.below c.requires in
    (_, shows_for c.free.new.spans c.self.inside.lists c.next-next.result c.first_under-self-inside.result _ c.in-Some.lists c.in-Some.is (removed_first c.self.inside.spans c.in-Some.lists.bands c.in-Some.lists.row c.self.inside.gap c.self.inside.left c.args.self.now h c.in-Some-gap.at c.in-Some-gap.is there.0 there.1 there.2 c.take_span-span.new.spans c.take_span-span.result c.take_span-span.ensures.span c.take_span-span.ensures.taken c.take_span-span.ensures.others c.in-Some-sub.list c.in-Some-sub.is c.free.new.spans c.free.ensures.others c.free.ensures.sound c.next-next.result c.next-next.ensures c.take_span-span.ensures.spare c.free.ensures.spare c.first_under-self-inside.result c.first_under-self-inside.ensures))

pub returns : goal.returns
returns c = λ first rest is.
    let h = holds_for c.self.inside.spans c.self.inside.lists c.self.inside.gap c.self.inside.left c.args.self.now c.self.invariant c.self.view_is c.in-Some.lists c.in-Some.is in
    seen c.free.new.spans c.self.inside.lists c.next-next.result c.first_under-self-inside.result _
    (shows_for c.free.new.spans c.self.inside.lists c.next-next.result c.first_under-self-inside.result _ c.in-Some.lists c.in-Some.is (removed_first c.self.inside.spans c.in-Some.lists.bands c.in-Some.lists.row c.self.inside.gap c.self.inside.left c.args.self.now h c.in-Some-gap.at c.in-Some-gap.is first rest is c.take_span-span.new.spans c.take_span-span.result c.take_span-span.ensures.span c.take_span-span.ensures.taken c.take_span-span.ensures.others c.in-Some-sub.list c.in-Some-sub.is c.free.new.spans c.free.ensures.others c.free.ensures.sound c.next-next.result c.next-next.ensures c.take_span-span.ensures.spare c.free.ensures.spare c.first_under-self-inside.result c.first_under-self-inside.ensures))
