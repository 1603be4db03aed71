use Rattle.std.proofs.Common.{◌≡◌, ◌∙◌, ◌++◌, map, ap, to_z, of_z, arith}
use Rattle.std.specs.Int.{w32}
use Rattle.std.proofs.lemmas.Int.{ints}
use Rattle.region_bands.specs.Bands.{Bands}
use Rattle.region_sets.specs.Moves.{moved_band}
use Rattle.region_sets.proofs.MoveLemmas.{shifting_room, shifting_more, shifting_done}
use Rattle.region_sets.proofs.MovedLemmas.{offset_means}
use Rattle.region_sets.proofs.edits.offset.Goals as goal

pub put_row-requires : goal.put_row-requires
put_row-requires c = shifting_room (to_z w32 (of_z w32 c.args.dx)) (to_z w32 (of_z w32 c.args.dy)) c.args.bands.now c.loop-rows.bands c.loop-rows.invariant c.first_rows.result c.first_rows.ensures c.in-Some.rows c.in-Some.is c.move_row.new.bands c.move_row.ensures.moved c.remove_first.new.self c.remove_first.ensures

pub loop-rows-smaller : goal.loop-rows-smaller
loop-rows-smaller c = (shifting_more (to_z w32 (of_z w32 c.args.dx)) (to_z w32 (of_z w32 c.args.dy)) c.args.bands.now c.loop-rows.bands c.loop-rows.invariant c.first_rows.result c.first_rows.ensures c.in-Some.rows c.in-Some.is c.move_row.new.bands c.move_row.ensures.moved c.remove_first.new.self c.remove_first.ensures c.put_row.new.self c.moved_rows.result c.moved_rows.ensures c.move_row.ensures.spare c.put_row.ensures.spare c.put_row.ensures.band).1

pub loop-rows-preserved : goal.loop-rows-preserved
loop-rows-preserved c = (shifting_more (to_z w32 (of_z w32 c.args.dx)) (to_z w32 (of_z w32 c.args.dy)) c.args.bands.now c.loop-rows.bands c.loop-rows.invariant c.first_rows.result c.first_rows.ensures c.in-Some.rows c.in-Some.is c.move_row.new.bands c.move_row.ensures.moved c.remove_first.new.self c.remove_first.ensures c.put_row.new.self c.moved_rows.result c.moved_rows.ensures c.move_row.ensures.spare c.put_row.ensures.spare c.put_row.ensures.band).0

pub returns-clause-are_bands : goal.returns-clause-are_bands
returns-clause-are_bands c =
    let all = c.args.bands.now.above ++ c.args.bands.now.below in
    let dx : to_z w32 (of_z w32 c.args.dx) ≡ c.args.dx = omega (arith, ints) in
    let dy : to_z w32 (of_z w32 c.args.dy) ≡ c.args.dy = omega (arith, ints) in
    let done = shifting_done (to_z w32 (of_z w32 c.args.dx)) (to_z w32 (of_z w32 c.args.dy)) c.args.bands.now c.loop-rows.bands c.loop-rows.invariant c.first_rows.result c.first_rows.ensures c.in_default.is in
    let above = ap (λ (u : Bands). u.above) done ∙ ap (λ n. map (moved_band n (to_z w32 (of_z w32 c.args.dy))) all) dx ∙ ap (λ n. map (moved_band c.args.dx n) all) dy in
    (offset_means c.args.dx c.args.dy all c.loop-rows.bands.above above).0

pub returns-clause-has : goal.returns-clause-has
returns-clause-has c =
    let all = c.args.bands.now.above ++ c.args.bands.now.below in
    let dx : to_z w32 (of_z w32 c.args.dx) ≡ c.args.dx = omega (arith, ints) in
    let dy : to_z w32 (of_z w32 c.args.dy) ≡ c.args.dy = omega (arith, ints) in
    let done = shifting_done (to_z w32 (of_z w32 c.args.dx)) (to_z w32 (of_z w32 c.args.dy)) c.args.bands.now c.loop-rows.bands c.loop-rows.invariant c.first_rows.result c.first_rows.ensures c.in_default.is in
    let above = ap (λ (u : Bands). u.above) done ∙ ap (λ n. map (moved_band n (to_z w32 (of_z w32 c.args.dy))) all) dx ∙ ap (λ n. map (moved_band c.args.dx n) all) dy in
    (offset_means c.args.dx c.args.dy all c.loop-rows.bands.above above).1
