use Rattle.std.proofs.Common.{ap}
use Rattle.region_bands.specs.Bands.{reading_of}
use Rattle.region_bands.proofs.SeenLemmas.{seen}
use Rattle.region_bands.proofs.CallLemmas.{reread_over, reread_shows}
use Rattle.region_bands.proofs.BandList.spans_below.Goals as goal

pub first_under-left-requires : goal.first_under-left-requires
first_under-left-requires c = reread_over c.self.inside.spans c.self.inside.lists c.self.inside.gap c.self.inside.left c.args.self.now c.self.invariant c.self.view_is

pub invariant_of-result : goal.invariant_of-result
invariant_of-result c = (_, reread_shows c.self.inside.spans c.self.inside.lists c.self.inside.gap c.self.inside.left c.args.self.now c.self.invariant c.self.view_is c.first_under-left.result c.first_under-left.ensures)

pub returns : goal.returns
returns c =
    ap reading_of (seen c.self.inside.spans c.self.inside.lists c.self.inside.gap c.first_under-left.result _
    (reread_shows c.self.inside.spans c.self.inside.lists c.self.inside.gap c.self.inside.left c.args.self.now c.self.invariant c.self.view_is c.first_under-left.result c.first_under-left.ensures))
