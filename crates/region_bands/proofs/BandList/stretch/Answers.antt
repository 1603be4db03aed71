use Rattle.std.proofs.Common.{rules, refl}
use Rattle.std.specs.Prelude.{FitsSigned}
use Rattle.std.specs.Int.{w32}
use Rattle.std.proofs.lemmas.Int.{to_z-of_z}
use Rattle.region_bands.proofs.SeenLemmas.{seen}
use Rattle.region_bands.proofs.CallLemmas.{gap_spans, last_live, last_there, stretched_shows}
use Rattle.region_bands.proofs.BandList.stretch.Goals as goal

pub last_before-requires-clause-before : goal.last_before-requires-clause-before
last_before-requires-clause-before c = gap_spans c.self.inside.spans c.self.inside.lists c.self.inside.gap c.self.inside.left c.args.self.now c.self.invariant c.self.view_is

pub get-span-requires : goal.get-span-requires
get-span-requires c = last_live c.self.inside.spans c.self.inside.lists c.self.inside.gap c.self.inside.left c.args.self.now c.self.invariant c.self.view_is c.in-Some.lists c.in-Some.is c.last_before.result c.last_before.ensures c.in-Some-last_before.at c.in-Some-last_before.is

pub invariant_of-self : goal.invariant_of-self
invariant_of-self c =
    let given : FitsSigned w32 c.args.bottom = search rules in
    let start : FitsSigned w32 c.get-span.result.start = search rules in
    let stop : FitsSigned w32 c.get-span.result.stop = search rules in
    let there = last_there c.args.self.now.above c.requires in
    (_, stretched_shows c.self.inside.spans c.self.inside.lists c.self.inside.gap c.self.inside.left c.args.self.now c.self.invariant c.self.view_is c.set_span.new.spans c.set_span.ensures.sound c.set_span.ensures.spare c.in-Some-last_before.at c.get-span.result (record c.get-span.result { stop = c.args.bottom }) c.get-span.ensures (simp to_z-of_z at c.set_span.ensures.set) c.set_span.ensures.others c.in-Some.lists c.in-Some.is c.args.bottom refl c.last_before.result c.last_before.ensures c.in-Some-last_before.is there.0 there.1 there.2)

pub returns : goal.returns
returns c = λ xs x is.
    let given : FitsSigned w32 c.args.bottom = search rules in
    let start : FitsSigned w32 c.get-span.result.start = search rules in
    let stop : FitsSigned w32 c.get-span.result.stop = search rules in
    seen c.set_span.new.spans c.self.inside.lists c.self.inside.gap c.self.inside.left _
    (stretched_shows c.self.inside.spans c.self.inside.lists c.self.inside.gap c.self.inside.left c.args.self.now c.self.invariant c.self.view_is c.set_span.new.spans c.set_span.ensures.sound c.set_span.ensures.spare c.in-Some-last_before.at c.get-span.result (record c.get-span.result { stop = c.args.bottom }) c.get-span.ensures (simp to_z-of_z at c.set_span.ensures.set) c.set_span.ensures.others c.in-Some.lists c.in-Some.is c.args.bottom refl c.last_before.result c.last_before.ensures c.in-Some-last_before.is xs x is)
