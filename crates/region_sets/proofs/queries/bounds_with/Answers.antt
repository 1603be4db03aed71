use Rattle.region_sets.proofs.BoundsLemmas.{joining_more}
use Rattle.region_sets.proofs.queries.bounds_with.Goals as goal

pub loop-next-preserved : goal.loop-next-preserved
loop-next-preserved c = (joining_more c.args.given c.args.bands.now c.loop-next.bands c.loop-next.bounds c.loop-next.invariant c.first_bounds.result c.first_bounds.ensures.bounds c.in-Some.next c.joined-bounds.result c.first_bounds.new.bands c.in-Some.is c.joined-bounds.ensures c.first_bounds.ensures.read).0
