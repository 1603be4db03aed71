use Rattle.std.proofs.Common.{◌≡◌, sym, arith, to_z, of_z}
use Rattle.std.specs.Int.{w32}
use Rattle.std.proofs.lemmas.Int.{ints}
use Rattle.region_sets.proofs.RowLemmas.{true_false}
use Rattle.region_sets.proofs.BandLemmas.{comparing_more, comparing_done}
use Rattle.region_sets.proofs.queries.meets.Goals as goal

pub loop-edge-smaller : goal.loop-edge-smaller
loop-edge-smaller c =
    let n = to_z w32 (of_z w32 c.in-Some.edge) in
    let same : n ≡ c.in-Some.edge = omega (arith, ints) in
    (comparing_more c.args.first.now c.args.second.now c.loop-edge.first c.loop-edge.second c.loop-edge.invariant c.first_bottom.result c.first_rows.result c.first_rows-in-loop-edge.result c.first_rows.ensures c.first_rows-in-loop-edge.ensures c.first_bottom.ensures
    c.first_bands_meet.new.first c.first_bands_meet.new.second c.pass_above.new.bands c.pass_above-in-Some.new.bands c.in-Some.edge n c.in-Some.is same (c.first_bands_meet.ensures.no c.if-first_bands_meet.false) c.first_bands_meet.ensures.first_stays c.first_bands_meet.ensures.second_stays
    c.pass_above.ensures c.pass_above-in-Some.ensures).1

pub loop-edge-preserved : goal.loop-edge-preserved
loop-edge-preserved c =
    let n = to_z w32 (of_z w32 c.in-Some.edge) in
    let same : n ≡ c.in-Some.edge = omega (arith, ints) in
    (comparing_more c.args.first.now c.args.second.now c.loop-edge.first c.loop-edge.second c.loop-edge.invariant c.first_bottom.result c.first_rows.result c.first_rows-in-loop-edge.result c.first_rows.ensures c.first_rows-in-loop-edge.ensures c.first_bottom.ensures
    c.first_bands_meet.new.first c.first_bands_meet.new.second c.pass_above.new.bands c.pass_above-in-Some.new.bands c.in-Some.edge n c.in-Some.is same (c.first_bands_meet.ensures.no c.if-first_bands_meet.false) c.first_bands_meet.ensures.first_stays c.first_bands_meet.ensures.second_stays
    c.pass_above.ensures c.pass_above-in-Some.ensures).0

pub returns : goal.returns
returns c = (
  λ e. absurd (true_false (sym e)),
  λ there. absurd (comparing_done c.args.first.now c.args.second.now c.loop-edge.first c.loop-edge.second c.loop-edge.invariant c.first_bottom.result c.first_rows.result c.first_rows-in-loop-edge.result c.first_rows.ensures c.first_rows-in-loop-edge.ensures c.first_bottom.ensures c.in_default.is there),
)
