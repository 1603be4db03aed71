use Rattle.std.proofs.Common.{◌≡◌, arith, to_z, of_z, refl, sym}
use Rattle.std.specs.Int.{w32}
use Rattle.std.proofs.lemmas.Int.{ints}
use Rattle.region_sets.proofs.RowLemmas.{true_false, comparing_more, comparing_found, comparing_done}
use Rattle.region_sets.proofs.rows.rows_meet.Goals as goal

pub returns-then-intervals_meet-clause-share : goal.returns-then-intervals_meet-clause-share
returns-then-intervals_meet-clause-share c = (
  λ _. comparing_found c.args.first.now c.args.second.now c.loop-edge.first c.loop-edge.second c.loop-edge.invariant c.first_end.result c.first_left.result c.first_left-in-loop-edge.result c.first_left.ensures c.first_left-in-loop-edge.ensures c.first_end.ensures
      c.intervals_meet.result c.first_left-in-Some.result c.first_left-in-Some-2.result c.first_left-in-Some.ensures c.first_left-in-Some-2.ensures c.intervals_meet.ensures c.if-intervals_meet.true,
  λ _. refl,
)

pub loop-edge-smaller : goal.loop-edge-smaller
loop-edge-smaller c =
    let n = to_z w32 (of_z w32 c.in-Some.edge) in
    let same : n ≡ c.in-Some.edge = omega (arith, ints) in
    (comparing_more c.args.first.now c.args.second.now c.loop-edge.first c.loop-edge.second c.loop-edge.invariant c.first_end.result c.first_left.result c.first_left-in-loop-edge.result c.first_left.ensures c.first_left-in-loop-edge.ensures c.first_end.ensures
    c.skip_before.new.bands c.skip_before-in-Some.new.bands c.in-Some.edge n c.intervals_meet.result c.first_left-in-Some.result c.first_left-in-Some-2.result c.in-Some.is same c.first_left-in-Some.ensures c.first_left-in-Some-2.ensures c.intervals_meet.ensures c.if-intervals_meet.false
    c.skip_before.ensures c.skip_before-in-Some.ensures).1

pub loop-edge-preserved : goal.loop-edge-preserved
loop-edge-preserved c =
    let n = to_z w32 (of_z w32 c.in-Some.edge) in
    let same : n ≡ c.in-Some.edge = omega (arith, ints) in
    (comparing_more c.args.first.now c.args.second.now c.loop-edge.first c.loop-edge.second c.loop-edge.invariant c.first_end.result c.first_left.result c.first_left-in-loop-edge.result c.first_left.ensures c.first_left-in-loop-edge.ensures c.first_end.ensures
    c.skip_before.new.bands c.skip_before-in-Some.new.bands c.in-Some.edge n c.intervals_meet.result c.first_left-in-Some.result c.first_left-in-Some-2.result c.in-Some.is same c.first_left-in-Some.ensures c.first_left-in-Some-2.ensures c.intervals_meet.ensures c.if-intervals_meet.false
    c.skip_before.ensures c.skip_before-in-Some.ensures).0

pub returns-clause-share : goal.returns-clause-share
returns-clause-share c = (
  λ e. absurd (true_false (sym e)),
  λ there. absurd (comparing_done c.args.first.now c.args.second.now c.loop-edge.first c.loop-edge.second c.loop-edge.invariant c.first_end.result c.first_left.result c.first_left-in-loop-edge.result c.first_left.ensures c.first_left-in-loop-edge.ensures c.first_end.ensures c.in_default.is there),
)
