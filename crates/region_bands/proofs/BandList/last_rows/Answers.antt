use Rattle.std.proofs.Common.{rules}
use Rattle.std.specs.Prelude.{FitsSigned}
use Rattle.std.specs.Int.{w32}
use Rattle.std.proofs.lemmas.Int.{to_z-of_z}
use Rattle.region_bands.proofs.CallLemmas.{gap_spans, last_live, last_is}
use Rattle.region_bands.proofs.BandList.last_rows.Goals as goal

pub last_before-requires-clause-before : goal.last_before-requires-clause-before
last_before-requires-clause-before c = gap_spans c.self.inside.spans c.self.inside.lists c.self.inside.gap c.self.inside.left c.args.self.now c.self.invariant c.self.view_is

pub get-span-requires : goal.get-span-requires
get-span-requires c = last_live c.self.inside.spans c.self.inside.lists c.self.inside.gap c.self.inside.left c.args.self.now c.self.invariant c.self.view_is c.in_ok-lists.lists c.in_ok-lists.was c.last_before.result c.last_before.ensures c.in_ok-at.at c.in_ok-at.was

pub returns : goal.returns
returns c =
    let start : FitsSigned w32 c.get-span.result.start = search rules in
    let stop : FitsSigned w32 c.get-span.result.stop = search rules in
    simp to_z-of_z
    (last_is c.self.inside.spans c.self.inside.lists c.self.inside.gap c.self.inside.left c.args.self.now c.self.invariant c.self.view_is c.in_ok-lists.lists c.in_ok-lists.was c.last_before.result c.last_before.ensures c.in_ok-at.at c.in_ok-at.was c.get-span.result c.get-span.ensures)
