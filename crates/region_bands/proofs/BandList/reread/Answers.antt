use Rattle.region_bands.proofs.SeenLemmas.{seen}
use Rattle.region_bands.proofs.CallLemmas.{reread_over, reread_shows}
use Rattle.region_bands.proofs.BandList.reread.Goals as goal

pub first_under-self-inside-requires : goal.first_under-self-inside-requires
first_under-self-inside-requires c = reread_over c.self.inside.spans c.self.inside.lists c.self.inside.gap c.self.inside.left c.args.self.now c.self.invariant c.self.view_is

pub invariant_of-self : goal.invariant_of-self
invariant_of-self c = (_, reread_shows c.self.inside.spans c.self.inside.lists c.self.inside.gap c.self.inside.left c.args.self.now c.self.invariant c.self.view_is c.first_under-self-inside.result c.first_under-self-inside.ensures)

pub returns : goal.returns
returns c =
    seen c.self.inside.spans c.self.inside.lists c.self.inside.gap c.first_under-self-inside.result _
    (reread_shows c.self.inside.spans c.self.inside.lists c.self.inside.gap c.self.inside.left c.args.self.now c.self.invariant c.self.view_is c.first_under-self-inside.result c.first_under-self-inside.ensures)
