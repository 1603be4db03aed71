use Rattle.std.proofs.Common.{rules, [], refl, ap, sym, ◌∙◌}
use Rattle.std.specs.Prelude.{FitsSigned}
use Rattle.std.specs.Int.{w32}
use Rattle.std.proofs.lemmas.Int.{to_z-of_z}
use Rattle.region_bands.specs.Bands.{first_row}
use Rattle.region_bands.proofs.SeenLemmas.{seen}
use Rattle.region_bands.proofs.StepLemmas.{first_there}
use Rattle.region_bands.proofs.CallLemmas.{gap_live, has_sub}
use Rattle.region_bands.proofs.RowLemmas.{list_live, lacks_first, pick_first, pick_place, pick_row, pick_result, pick_over, pick_shows, back_is}
use Rattle.region_bands.proofs.BandList.take_first_interval.Goals as goal

pub get-span-requires : goal.get-span-requires
get-span-requires c = gap_live c.self.inside.spans c.self.inside.lists c.self.inside.gap c.self.inside.left c.args.self.now c.self.invariant c.self.view_is c.in-Some.at c.in-Some.is

pub unreachable-requires-in_default-sub : goal.unreachable-requires-in_default-sub
unreachable-requires-in_default-sub c =
    let sub = has_sub c.self.inside.spans c.self.inside.lists c.self.inside.gap c.self.inside.left c.args.self.now c.self.invariant c.self.view_is c.in-Some.at c.in-Some.is c.get-span.result c.get-span.ensures in
    c.in_default-sub.not-Some sub.0 sub.1

pub first-requires : goal.first-requires
first-requires c =
    let there = first_there c.args.self.now.below c.requires.band in
    list_live c.self.inside.spans c.self.inside.lists c.self.inside.gap c.self.inside.left c.args.self.now c.self.invariant c.self.view_is c.in-Some.at c.in-Some.is c.get-span.result c.get-span.ensures c.in-Some-sub.list c.in-Some-sub.is there.0 there.1 there.2

pub unreachable-requires-in_default-first : goal.unreachable-requires-in_default-first
unreachable-requires-in_default-first c =
    let there = first_there c.args.self.now.below c.requires.band in
    lacks_first c.self.inside.spans c.self.inside.lists c.self.inside.gap c.self.inside.left c.args.self.now c.self.invariant c.self.view_is c.in-Some.at c.in-Some.is c.get-span.result c.get-span.ensures c.in-Some-sub.list c.in-Some-sub.is there.0 there.1 there.2 c.requires.interval c.first.result c.first.ensures c.in_default-first.is

pub take_span-taken-requires : goal.take_span-taken-requires
take_span-taken-requires c =
    let there = first_there c.args.self.now.below c.requires.band in
    let pick = pick_first c.self.inside.spans c.self.inside.lists c.self.inside.gap c.self.inside.left c.args.self.now c.self.invariant c.self.view_is c.in-Some.at c.in-Some.is c.get-span.result c.get-span.ensures c.in-Some-sub.list c.in-Some-sub.is there.0 there.1 there.2 c.first.result c.first.ensures c.in-Some-first.first c.in-Some-first.is in
    pick_place c.self.inside.spans c.self.inside.lists c.self.inside.gap c.self.inside.left c.args.self.now c.self.invariant c.self.view_is c.in-Some.at c.in-Some.is c.get-span.result c.get-span.ensures c.in-Some-sub.list c.in-Some-sub.is there.0 there.1 there.2 c.in-Some-first.first [] pick.0 pick.1

pub first_under-self-inside-requires : goal.first_under-self-inside-requires
first_under-self-inside-requires c =
    let there = first_there c.args.self.now.below c.requires.band in
    let pick = pick_first c.self.inside.spans c.self.inside.lists c.self.inside.gap c.self.inside.left c.args.self.now c.self.invariant c.self.view_is c.in-Some.at c.in-Some.is c.get-span.result c.get-span.ensures c.in-Some-sub.list c.in-Some-sub.is there.0 there.1 there.2 c.first.result c.first.ensures c.in-Some-first.first c.in-Some-first.is in
    pick_over c.self.inside.spans c.self.inside.lists c.self.inside.gap c.self.inside.left c.args.self.now c.self.invariant c.self.view_is c.in-Some.at c.in-Some.is c.get-span.result c.get-span.ensures c.in-Some-sub.list c.in-Some-sub.is there.0 there.1 there.2 c.in-Some-first.first [] pick.0 pick.1 c.take_span-taken.new.spans c.take_span-taken.ensures.taken c.take_span-taken.ensures.others c.take_span-taken.ensures.sound

pub invariant_of-self : goal.invariant_of-self
invariant_of-self c =
    let there = first_there c.args.self.now.below c.requires.band in
    let pick = pick_first c.self.inside.spans c.self.inside.lists c.self.inside.gap c.self.inside.left c.args.self.now c.self.invariant c.self.view_is c.in-Some.at c.in-Some.is c.get-span.result c.get-span.ensures c.in-Some-sub.list c.in-Some-sub.is there.0 there.1 there.2 c.first.result c.first.ensures c.in-Some-first.first c.in-Some-first.is in
    (_, pick_shows c.self.inside.spans c.self.inside.lists c.self.inside.gap c.self.inside.left c.args.self.now c.self.invariant c.self.view_is c.in-Some.at c.in-Some.is c.get-span.result c.get-span.ensures c.in-Some-sub.list c.in-Some-sub.is there.0 there.1 there.2 c.in-Some-first.first [] pick.0 pick.1 c.take_span-taken.new.spans c.take_span-taken.ensures.taken c.take_span-taken.ensures.others c.take_span-taken.ensures.sound c.take_span-taken.ensures.spare c.first_under-self-inside.result c.first_under-self-inside.ensures _ refl)

pub returns-clause-interval : goal.returns-clause-interval
returns-clause-interval c = λ row interval is.
    let start : FitsSigned w32 c.take_span-taken.result.start = search rules in
    let stop : FitsSigned w32 c.take_span-taken.result.stop = search rules in
    let there = first_there c.args.self.now.below c.requires.band in
    let pick = pick_first c.self.inside.spans c.self.inside.lists c.self.inside.gap c.self.inside.left c.args.self.now c.self.invariant c.self.view_is c.in-Some.at c.in-Some.is c.get-span.result c.get-span.ensures c.in-Some-sub.list c.in-Some-sub.is there.0 there.1 there.2 c.first.result c.first.ensures c.in-Some-first.first c.in-Some-first.is in
    simp to_z-of_z
    (pick_result c.self.inside.spans c.self.inside.lists c.self.inside.gap c.self.inside.left c.args.self.now c.self.invariant c.self.view_is c.in-Some.at c.in-Some.is c.get-span.result c.get-span.ensures c.in-Some-sub.list c.in-Some-sub.is there.0 there.1 there.2 c.in-Some-first.first [] pick.0 pick.1 c.take_span-taken.result c.take_span-taken.ensures.span
    ∙ (back_is pick.0 pick.1.p row interval (sym (pick_row c.self.inside.spans c.self.inside.lists c.self.inside.gap c.self.inside.left c.args.self.now c.self.invariant c.self.view_is c.in-Some.at c.in-Some.is c.get-span.result c.get-span.ensures c.in-Some-sub.list c.in-Some-sub.is there.0 there.1 there.2 c.in-Some-first.first [] pick.0 pick.1) ∙ ap first_row (sym there.2) ∙ is)).1)

pub returns-clause-taken : goal.returns-clause-taken
returns-clause-taken c = λ first rest row interval below is.
    let pick = pick_first c.self.inside.spans c.self.inside.lists c.self.inside.gap c.self.inside.left c.args.self.now c.self.invariant c.self.view_is c.in-Some.at c.in-Some.is c.get-span.result c.get-span.ensures c.in-Some-sub.list c.in-Some-sub.is first rest below c.first.result c.first.ensures c.in-Some-first.first c.in-Some-first.is in
    seen c.take_span-taken.new.spans c.self.inside.lists c.self.inside.gap c.first_under-self-inside.result _
    (pick_shows c.self.inside.spans c.self.inside.lists c.self.inside.gap c.self.inside.left c.args.self.now c.self.invariant c.self.view_is c.in-Some.at c.in-Some.is c.get-span.result c.get-span.ensures c.in-Some-sub.list c.in-Some-sub.is first rest below c.in-Some-first.first [] pick.0 pick.1 c.take_span-taken.new.spans c.take_span-taken.ensures.taken c.take_span-taken.ensures.others c.take_span-taken.ensures.sound c.take_span-taken.ensures.spare c.first_under-self-inside.result c.first_under-self-inside.ensures row
    (back_is pick.0 pick.1.p row interval (sym (pick_row c.self.inside.spans c.self.inside.lists c.self.inside.gap c.self.inside.left c.args.self.now c.self.invariant c.self.view_is c.in-Some.at c.in-Some.is c.get-span.result c.get-span.ensures c.in-Some-sub.list c.in-Some-sub.is first rest below c.in-Some-first.first [] pick.0 pick.1) ∙ is)).0)
