use Rattle.std.specs.Prelude.{false}
use Rattle.region.proofs.listing.push_first.Goals as goal
use Rattle.region.proofs.ListLemmas.{bands_more}

pub loop-rows-smaller : goal.loop-rows-smaller
loop-rows-smaller c = (bands_more false c.args.out.now.items c.loop-rows.out.items c.push_band.new.out.items c.args.bands.now c.loop-rows.bands c.push_band.new.bands c.advance.new.self c.loop-rows.invariant c.in-Some.rows c.first_rows.result c.first_rows.ensures c.in-Some.is c.in_ok-push_band.ensures.rects c.in_ok-push_band.ensures.read c.advance.ensures).1

pub loop-rows-preserved : goal.loop-rows-preserved
loop-rows-preserved c = (bands_more false c.args.out.now.items c.loop-rows.out.items c.push_band.new.out.items c.args.bands.now c.loop-rows.bands c.push_band.new.bands c.advance.new.self c.loop-rows.invariant c.in-Some.rows c.first_rows.result c.first_rows.ensures c.in-Some.is c.in_ok-push_band.ensures.rects c.in_ok-push_band.ensures.read c.advance.ensures).0
