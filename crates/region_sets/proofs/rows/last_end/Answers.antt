use Rattle.std.proofs.Common.{◌≡◌, ◌∙◌, ap, arith, to_z, of_z}
use Rattle.std.specs.Int.{w32}
use Rattle.std.proofs.lemmas.Int.{ints}
use Rattle.region_sets.specs.Walks.{row_end}
use Rattle.region_sets.proofs.RowLemmas.{ending_more, ending_done}
use Rattle.region_sets.proofs.rows.last_end.Goals as goal

pub loop-interval-smaller : goal.loop-interval-smaller
loop-interval-smaller c =
    let n = to_z w32 (of_z w32 c.in-Some.interval.to) in
    let same : n ≡ c.in-Some.interval.to = omega (arith, ints) in
    (ending_more (to_z w32 (of_z w32 c.args.x)) c.args.bands.now c.loop-interval.bands (to_z w32 c.loop-interval.end-bits) c.loop-interval.invariant c.first_left.result c.first_left.ensures c.in-Some.interval c.skip_left.new.self n c.in-Some.is same c.skip_left.ensures).1

pub loop-interval-preserved : goal.loop-interval-preserved
loop-interval-preserved c =
    let n = to_z w32 (of_z w32 c.in-Some.interval.to) in
    let same : n ≡ c.in-Some.interval.to = omega (arith, ints) in
    (ending_more (to_z w32 (of_z w32 c.args.x)) c.args.bands.now c.loop-interval.bands (to_z w32 c.loop-interval.end-bits) c.loop-interval.invariant c.first_left.result c.first_left.ensures c.in-Some.interval c.skip_left.new.self n c.in-Some.is same c.skip_left.ensures).0

pub returns-clause-end : goal.returns-clause-end
returns-clause-end c =
    let same : to_z w32 (of_z w32 c.args.x) ≡ c.args.x = omega (arith, ints) in
    (ending_done (to_z w32 (of_z w32 c.args.x)) c.args.bands.now c.loop-interval.bands (to_z w32 c.loop-interval.end-bits) c.loop-interval.invariant c.first_left.result c.first_left.ensures c.in_default.is).0 ∙ ap (λ n. row_end n c.args.bands.now.left) same

pub returns-clause-read : goal.returns-clause-read
returns-clause-read c = (ending_done (to_z w32 (of_z w32 c.args.x)) c.args.bands.now c.loop-interval.bands (to_z w32 c.loop-interval.end-bits) c.loop-interval.invariant c.first_left.result c.first_left.ensures c.in_default.is).1
