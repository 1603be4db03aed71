use Rattle.std.specs.Prelude.{FitsSigned}
use Rattle.std.specs.Int.{w32}
use Rattle.std.proofs.lemmas.Int.{to_z-of_z}
use Rattle.std.proofs.Common.{rules, map, [], ◌∷◌, ◌++◌, refl}
use Rattle.region_bands.specs.Held.{view_of, placed_interval}
use Rattle.region_bands.proofs.SeenLemmas.{seen, holds_for, shows_for}
use Rattle.region_bands.proofs.StepLemmas.{pushed}
use Rattle.region_bands.proofs.CallLemmas.{own_spare, row_end}
use Rattle.region_bands.proofs.BandList.push_interval.Goals as goal

pub insert_span-requires-clause-placed : goal.insert_span-requires-clause-placed
insert_span-requires-clause-placed c =
    let h = holds_for c.self.inside.spans c.self.inside.lists c.self.inside.gap c.self.inside.left c.args.self.now c.self.invariant c.self.view_is c.in-Some.lists c.in-Some.is in
    (map placed_interval h.row, [], row_end c.self.inside.spans c.in-Some.lists.bands c.in-Some.lists.row c.self.inside.gap c.self.inside.left c.args.self.now h, refl)

pub invariant_of-self : goal.invariant_of-self
invariant_of-self c =
    let start : FitsSigned w32 c.args.interval.from = search rules in
    let stop : FitsSigned w32 c.args.interval.to = search rules in
    let h = holds_for c.self.inside.spans c.self.inside.lists c.self.inside.gap c.self.inside.left c.args.self.now c.self.invariant c.self.view_is c.in-Some.lists c.in-Some.is in
    (_, shows_for c.insert_span.new.spans c.self.inside.lists c.self.inside.gap c.self.inside.left _ c.in-Some.lists c.in-Some.is (pushed c.self.inside.spans c.self.inside.spans c.insert_span.new.spans c.in-Some.lists.bands c.in-Some.lists.row c.self.inside.gap c.self.inside.left c.args.self.now h c.insert_span.result c.args.interval (simp to_z-of_z at c.insert_span.ensures.put) c.insert_span.ensures.others c.insert_span.ensures.sound))

pub returns-clause-row : goal.returns-clause-row
returns-clause-row c =
    let start : FitsSigned w32 c.args.interval.from = search rules in
    let stop : FitsSigned w32 c.args.interval.to = search rules in
    let h = holds_for c.self.inside.spans c.self.inside.lists c.self.inside.gap c.self.inside.left c.args.self.now c.self.invariant c.self.view_is c.in-Some.lists c.in-Some.is in
    let v = c.args.self.now in
    own_spare (view_of c.insert_span.new.spans c.self.inside.lists c.self.inside.gap c.self.inside.left) (λ n. record v { row = v.row ++ c.args.interval ∷ []; spare = n }) (λ n. refl) c.insert_span.new.spans.spare
    (seen c.insert_span.new.spans c.self.inside.lists c.self.inside.gap c.self.inside.left _
    (shows_for c.insert_span.new.spans c.self.inside.lists c.self.inside.gap c.self.inside.left _ c.in-Some.lists c.in-Some.is (pushed c.self.inside.spans c.self.inside.spans c.insert_span.new.spans c.in-Some.lists.bands c.in-Some.lists.row c.self.inside.gap c.self.inside.left c.args.self.now h c.insert_span.result c.args.interval (simp to_z-of_z at c.insert_span.ensures.put) c.insert_span.ensures.others c.insert_span.ensures.sound)))
