use Rattle.region_rows.proofs.MakeLemmas.{other_more, other_room, other_done}
use Rattle.region_rows.proofs.copy_other.Goals as goal

pub push_interval-requires : goal.push_interval-requires
push_interval-requires c = other_room c.args.bands.now c.loop-interval.bands c.args.other.now c.loop-interval.other c.loop-interval.invariant c.in-Some.interval c.first_left.result c.first_left.ensures c.in-Some.is c.requires.room

pub loop-interval-smaller : goal.loop-interval-smaller
loop-interval-smaller c = (other_more c.args.bands.now c.loop-interval.bands c.args.other.now c.loop-interval.other c.loop-interval.invariant c.in-Some.interval c.first_left.result c.skip_left.new.self c.push_interval.new.self c.first_left.ensures c.in-Some.is c.skip_left.ensures c.push_interval.ensures.spare c.push_interval.ensures.row).1

pub loop-interval-preserved : goal.loop-interval-preserved
loop-interval-preserved c = (other_more c.args.bands.now c.loop-interval.bands c.args.other.now c.loop-interval.other c.loop-interval.invariant c.in-Some.interval c.first_left.result c.skip_left.new.self c.push_interval.new.self c.first_left.ensures c.in-Some.is c.skip_left.ensures c.push_interval.ensures.spare c.push_interval.ensures.row).0

pub returns-clause-copied : goal.returns-clause-copied
returns-clause-copied c = (other_done c.args.bands.now c.loop-interval.bands c.args.other.now c.loop-interval.other c.loop-interval.invariant c.first_left.result c.first_left.ensures c.in_default.is).0

pub returns-clause-read : goal.returns-clause-read
returns-clause-read c = (other_done c.args.bands.now c.loop-interval.bands c.args.other.now c.loop-interval.other c.loop-interval.invariant c.first_left.result c.first_left.ensures c.in_default.is).1
