use Rattle.region_rows.proofs.MakeLemmas.{left_more, left_room, left_done}
use Rattle.region_rows.proofs.copy_left.Goals as goal

pub push_interval-requires : goal.push_interval-requires
push_interval-requires c = left_room c.args.bands.now c.loop-interval.bands c.loop-interval.invariant c.in-Some.interval c.first_left.result c.skip_left.new.self c.first_left.ensures c.in-Some.is c.skip_left.ensures c.requires.room

pub loop-interval-smaller : goal.loop-interval-smaller
loop-interval-smaller c = (left_more c.args.bands.now c.loop-interval.bands c.loop-interval.invariant c.in-Some.interval c.first_left.result c.skip_left.new.self c.push_interval.new.self c.first_left.ensures c.in-Some.is c.skip_left.ensures c.push_interval.ensures.spare c.push_interval.ensures.row).1

pub loop-interval-preserved : goal.loop-interval-preserved
loop-interval-preserved c = (left_more c.args.bands.now c.loop-interval.bands c.loop-interval.invariant c.in-Some.interval c.first_left.result c.skip_left.new.self c.push_interval.new.self c.first_left.ensures c.in-Some.is c.skip_left.ensures c.push_interval.ensures.spare c.push_interval.ensures.row).0

pub returns-clause-copied : goal.returns-clause-copied
returns-clause-copied c = left_done c.args.bands.now c.loop-interval.bands c.loop-interval.invariant c.first_left.result c.first_left.ensures c.in_default.is
