use Rattle.std.proofs.Common.{None}
use Rattle.region_bands.proofs.SeenLemmas.{seen}
use Rattle.region_bands.proofs.CallLemmas.{wound_shows}
use Rattle.region_bands.proofs.BandList.wind.Goals as goal

pub invariant_of-self : goal.invariant_of-self
invariant_of-self c = (_, wound_shows c.self.inside.spans c.self.inside.lists c.self.inside.gap c.self.inside.left c.args.self.now c.self.invariant c.self.view_is)

pub returns : goal.returns
returns c = seen c.self.inside.spans c.self.inside.lists None None _ (wound_shows c.self.inside.spans c.self.inside.lists c.self.inside.gap c.self.inside.left c.args.self.now c.self.invariant c.self.view_is)
