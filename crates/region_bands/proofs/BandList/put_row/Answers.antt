use Rattle.std.specs.Prelude.{FitsSigned}
use Rattle.std.specs.Int.{w32}
use Rattle.std.proofs.lemmas.Int.{to_z-of_z}
use Rattle.std.proofs.Common.{rules, Some}
use Rattle.region_bands.proofs.SeenLemmas.{seen, holds_for}
use Rattle.region_bands.proofs.StepLemmas.{banded}
use Rattle.region_bands.proofs.BandList.put_row.Goals as goal

pub invariant_of-self : goal.invariant_of-self
invariant_of-self c =
    let start : FitsSigned w32 c.args.rows.top = search rules in
    let stop : FitsSigned w32 c.args.rows.bottom = search rules in
    let h = holds_for c.self.inside.spans c.self.inside.lists c.self.inside.gap c.self.inside.left c.args.self.now c.self.invariant c.self.view_is c.in-Some.lists c.in-Some.is in
    (_, banded c.self.inside.spans c.insert_span.new.spans c.new_list-row.new.spans c.in-Some.lists.bands c.in-Some.lists.row c.self.inside.gap c.self.inside.left c.args.self.now h c.insert_span.result c.args.rows.top c.args.rows.bottom (simp to_z-of_z at c.insert_span.ensures.put) c.insert_span.ensures.others c.new_list-row.result c.new_list-row.ensures.fresh c.new_list-row.ensures.made c.new_list-row.ensures.others c.new_list-row.ensures.sound)

pub returns-clause-band : goal.returns-clause-band
returns-clause-band c =
    let start : FitsSigned w32 c.args.rows.top = search rules in
    let stop : FitsSigned w32 c.args.rows.bottom = search rules in
    let h = holds_for c.self.inside.spans c.self.inside.lists c.self.inside.gap c.self.inside.left c.args.self.now c.self.invariant c.self.view_is c.in-Some.lists c.in-Some.is in
    seen c.new_list-row.new.spans (Some (record { bands = c.in-Some.lists.bands; row = c.new_list-row.result })) c.self.inside.gap c.self.inside.left _
    (banded c.self.inside.spans c.insert_span.new.spans c.new_list-row.new.spans c.in-Some.lists.bands c.in-Some.lists.row c.self.inside.gap c.self.inside.left c.args.self.now h c.insert_span.result c.args.rows.top c.args.rows.bottom (simp to_z-of_z at c.insert_span.ensures.put) c.insert_span.ensures.others c.new_list-row.result c.new_list-row.ensures.fresh c.new_list-row.ensures.made c.new_list-row.ensures.others c.new_list-row.ensures.sound)
