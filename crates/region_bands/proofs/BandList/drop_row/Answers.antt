use Rattle.std.proofs.Common.{Some}
use Rattle.region_bands.proofs.SeenLemmas.{seen, holds_for}
use Rattle.region_bands.proofs.StepLemmas.{dropped}
use Rattle.region_bands.proofs.BandList.drop_row.Goals as goal

pub invariant_of-self : goal.invariant_of-self
invariant_of-self c =
    let h = holds_for c.self.inside.spans c.self.inside.lists c.self.inside.gap c.self.inside.left c.args.self.now c.self.invariant c.self.view_is c.in-Some.lists c.in-Some.is in
    (_, dropped c.self.inside.spans c.free.new.spans c.new_list-row.new.spans c.in-Some.lists.bands c.in-Some.lists.row c.self.inside.gap c.self.inside.left c.args.self.now h c.free.ensures.others c.new_list-row.result c.new_list-row.ensures.fresh c.new_list-row.ensures.made c.new_list-row.ensures.others c.new_list-row.ensures.sound)

pub returns-in-Some-clause-row : goal.returns-in-Some-clause-row
returns-in-Some-clause-row c =
    let h = holds_for c.self.inside.spans c.self.inside.lists c.self.inside.gap c.self.inside.left c.args.self.now c.self.invariant c.self.view_is c.in-Some.lists c.in-Some.is in
    seen c.new_list-row.new.spans (Some (record { bands = c.in-Some.lists.bands; row = c.new_list-row.result })) c.self.inside.gap c.self.inside.left _
    (dropped c.self.inside.spans c.free.new.spans c.new_list-row.new.spans c.in-Some.lists.bands c.in-Some.lists.row c.self.inside.gap c.self.inside.left c.args.self.now h c.free.ensures.others c.new_list-row.result c.new_list-row.ensures.fresh c.new_list-row.ensures.made c.new_list-row.ensures.others c.new_list-row.ensures.sound)
