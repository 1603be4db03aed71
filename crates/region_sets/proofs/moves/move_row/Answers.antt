use Rattle.std.proofs.Common.{◌≡◌, ◌∙◌, [], map, ap, to_z, of_z, arith}
use Rattle.std.specs.Int.{w32}
use Rattle.std.proofs.lemmas.Int.{ints}
use Rattle.region_bands.specs.Bands.{first_row}
use Rattle.region_sets.specs.Moves.{moved_interval, with_first_row}
use Rattle.region_sets.proofs.MoveLemmas.{moving_room, moving_more, moving_done}
use Rattle.region_sets.proofs.moves.move_row.Goals as goal

pub push_interval-requires : goal.push_interval-requires
push_interval-requires c = moving_room (to_z w32 (of_z w32 c.args.dx)) c.args.bands.now c.loop-interval.bands c.loop-interval.invariant c.requires.band c.in-Some.interval c.first_left.result c.first_left.ensures c.in-Some.is c.take_first_interval.new.self c.take_first_interval.ensures.taken

pub loop-interval-smaller : goal.loop-interval-smaller
loop-interval-smaller c = (moving_more (to_z w32 (of_z w32 c.args.dx)) c.args.bands.now c.loop-interval.bands c.loop-interval.invariant c.requires.band c.in-Some.interval c.first_left.result c.first_left.ensures c.in-Some.is c.take_first_interval.new.self c.push_interval.new.self c.moved_interval.result c.moved_interval.ensures c.take_first_interval.ensures.taken c.push_interval.ensures.spare c.push_interval.ensures.row).1

pub loop-interval-preserved : goal.loop-interval-preserved
loop-interval-preserved c = (moving_more (to_z w32 (of_z w32 c.args.dx)) c.args.bands.now c.loop-interval.bands c.loop-interval.invariant c.requires.band c.in-Some.interval c.first_left.result c.first_left.ensures c.in-Some.is c.take_first_interval.new.self c.push_interval.new.self c.moved_interval.result c.moved_interval.ensures c.take_first_interval.ensures.taken c.push_interval.ensures.spare c.push_interval.ensures.row).0

pub returns-clause-moved : goal.returns-clause-moved
returns-clause-moved c =
    let old = c.args.bands.now in
    let dx : to_z w32 (of_z w32 c.args.dx) ≡ c.args.dx = omega (arith, ints) in
    moving_done (to_z w32 (of_z w32 c.args.dx)) old c.loop-interval.bands c.loop-interval.invariant c.first_left.result c.first_left.ensures c.in_default.is
    ∙ ap (λ n. record old { row = map (moved_interval n) (first_row old.below); left = []; below = with_first_row [] old.below; spare = c.loop-interval.bands.spare }) dx
