use Rattle.region_bands.proofs.SeenLemmas.{seen}
use Rattle.region_bands.proofs.CallLemmas.{cloned_shows}
use Rattle.region_bands.proofs.BandList.try_clone.Goals as goal

pub invariant_of-result : goal.invariant_of-result
invariant_of-result c = (_, cloned_shows c.self.inside.spans c.in_ok-try_clone.field-0 c.in_ok-try_clone.ensures.lists c.in_ok-try_clone.ensures.spans c.self.inside.lists c.self.inside.gap c.self.inside.left c.args.self.now c.self.invariant c.self.view_is)

pub returns : goal.returns
returns c = seen c.in_ok-try_clone.field-0 c.self.inside.lists c.self.inside.gap c.self.inside.left _ (cloned_shows c.self.inside.spans c.in_ok-try_clone.field-0 c.in_ok-try_clone.ensures.lists c.in_ok-try_clone.ensures.spans c.self.inside.lists c.self.inside.gap c.self.inside.left c.args.self.now c.self.invariant c.self.view_is)
