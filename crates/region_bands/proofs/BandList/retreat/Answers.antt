use Rattle.region_bands.proofs.SeenLemmas.{seen, holds_for, shows_for}
use Rattle.region_bands.proofs.CutLemmas.{retreated, retreated_over}
use Rattle.region_bands.proofs.CallLemmas.{gap_spans, last_there}
use Rattle.region_bands.proofs.BandList.retreat.Goals as goal

pub last_before-self-inside-requires-clause-before : goal.last_before-self-inside-requires-clause-before
last_before-self-inside-requires-clause-before c = gap_spans c.self.inside.spans c.self.inside.lists c.self.inside.gap c.self.inside.left c.args.self.now c.self.invariant c.self.view_is

pub first_under-self-inside-requires : goal.first_under-self-inside-requires
first_under-self-inside-requires c =
    let h = holds_for c.self.inside.spans c.self.inside.lists c.self.inside.gap c.self.inside.left c.args.self.now c.self.invariant c.self.view_is c.in-Some.lists c.in-Some.is in
    retreated_over c.self.inside.spans c.in-Some.lists.bands c.in-Some.lists.row c.self.inside.gap c.self.inside.left c.args.self.now h c.last_before-self-inside.result c.last_before-self-inside.ensures c.requires

pub invariant_of-self : goal.invariant_of-self
invariant_of-self c =
    let h = holds_for c.self.inside.spans c.self.inside.lists c.self.inside.gap c.self.inside.left c.args.self.now c.self.invariant c.self.view_is c.in-Some.lists c.in-Some.is in
    let there = last_there c.args.self.now.above c.requires in (
      _,
      shows_for c.self.inside.spans c.self.inside.lists c.last_before-self-inside.result c.first_under-self-inside.result _ c.in-Some.lists c.in-Some.is
          (retreated c.self.inside.spans c.in-Some.lists.bands c.in-Some.lists.row c.self.inside.gap c.self.inside.left c.args.self.now h c.last_before-self-inside.result c.last_before-self-inside.ensures c.requires c.first_under-self-inside.result c.first_under-self-inside.ensures there.0 there.1 there.2),
    )

pub returns : goal.returns
returns c = λ front last is.
    let h = holds_for c.self.inside.spans c.self.inside.lists c.self.inside.gap c.self.inside.left c.args.self.now c.self.invariant c.self.view_is c.in-Some.lists c.in-Some.is in
    seen c.self.inside.spans c.self.inside.lists c.last_before-self-inside.result c.first_under-self-inside.result _
    (shows_for c.self.inside.spans c.self.inside.lists c.last_before-self-inside.result c.first_under-self-inside.result _ c.in-Some.lists c.in-Some.is
    (retreated c.self.inside.spans c.in-Some.lists.bands c.in-Some.lists.row c.self.inside.gap c.self.inside.left c.args.self.now h c.last_before-self-inside.result c.last_before-self-inside.ensures c.requires c.first_under-self-inside.result c.first_under-self-inside.ensures front last is))
