use Rattle.std.specs.Prelude.{length, false}
use Rattle.region.proofs.ListLemmas.{ListedBands}
use Rattle.region.proofs.listing.push_first.Given as goal

abbrev pub invariant-loop-rows : goal.invariant-loop-rows
invariant-loop-rows l = ListedBands false l.fn.out.items l.out.items l.fn.bands l.bands

abbrev pub decreases-loop-rows : goal.decreases-loop-rows
decreases-loop-rows l = length l.bands.bands
