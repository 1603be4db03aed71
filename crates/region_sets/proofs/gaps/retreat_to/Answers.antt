use Rattle.std.proofs.Common.{◌≡◌, arith, to_z, of_z, subst}
use Rattle.std.specs.Int.{w32}
use Rattle.std.proofs.lemmas.Int.{ints}
use Rattle.region_sets.specs.Sets.{EndBy}
use Rattle.region_sets.specs.GapLemmas.{unmoved, moved_on, still_bands, last_below, last_there, moved_up, all_end}
use Rattle.region_sets.proofs.gaps.retreat_to.Goals as goal

pub bands-init : goal.bands-init
bands-init c = unmoved c.args.bands.now

pub retreat-requires : goal.retreat-requires
retreat-requires c = last_there (to_z w32 (of_z w32 c.args.y)) c.bands.bands.above c.last_rows.result c.ends_below.result c.last_rows.ensures c.ends_below.ensures c.bands-test.true

pub bands-smaller : goal.bands-smaller
bands-smaller c =
    let there = last_below (to_z w32 (of_z w32 c.args.y)) c.bands.bands.above c.last_rows.result c.ends_below.result c.last_rows.ensures c.ends_below.ensures c.bands-test.true in
    (moved_up c.bands.bands c.retreat.new.self there.0 there.1 there.2 (c.retreat.ensures there.0 there.1 there.2)).1

pub bands-preserved : goal.bands-preserved
bands-preserved c =
    let there = last_below (to_z w32 (of_z w32 c.args.y)) c.bands.bands.above c.last_rows.result c.ends_below.result c.last_rows.ensures c.ends_below.ensures c.bands-test.true in
    moved_on c.args.bands.now c.bands.bands c.retreat.new.self c.bands.invariant (moved_up c.bands.bands c.retreat.new.self there.0 there.1 there.2 (c.retreat.ensures there.0 there.1 there.2)).0

pub returns-clause-ends : goal.returns-clause-ends
returns-clause-ends c =
    let same : to_z w32 (of_z w32 c.args.y) ≡ c.args.y = omega (arith, ints) in
    subst (λ n. EndBy n c.bands.bands.above) same (all_end (to_z w32 (of_z w32 c.args.y)) c.bands.bands.above c.bands.bands.below c.last_rows.result c.ends_below.result (still_bands c.args.bands.now c.bands.bands c.bands.invariant c.requires) c.last_rows.ensures c.ends_below.ensures c.bands-test.false)
