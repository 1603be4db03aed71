use Rattle.std.specs.Prelude.{length}
use Rattle.region.proofs.ListLemmas.{Listed}
use Rattle.region.proofs.listing.push_band.Given as goal

abbrev pub invariant-loop-columns : goal.invariant-loop-columns
invariant-loop-columns l = Listed l.fn.rows l.fn.out.items l.out.items l.fn.bands l.bands

abbrev pub decreases-loop-columns : goal.decreases-loop-columns
decreases-loop-columns l = length l.bands.left
