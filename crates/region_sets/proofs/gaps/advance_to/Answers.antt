use Rattle.std.proofs.Common.{◌≡◌, arith, to_z, of_z, subst, sym}
use Rattle.std.specs.Int.{w32}
use Rattle.std.proofs.lemmas.Int.{ints}
use Rattle.region_sets.specs.Sets.{EndBy}
use Rattle.region_sets.specs.GapLemmas.{unmoved, moved_on, first_there, some_below, moved_down}
use Rattle.region_sets.proofs.gaps.advance_to.Goals as goal

pub bands-init : goal.bands-init
bands-init c =
    let same : to_z w32 (of_z w32 c.args.y) ≡ c.args.y = omega (arith, ints) in
    (unmoved c.args.bands.now, subst (λ n. EndBy n c.args.bands.now.above) (sym same) c.requires)

pub advance-requires : goal.advance-requires
advance-requires c = some_below (to_z w32 (of_z w32 c.args.y)) c.bands.bands.below c.first_rows.result c.ends_by.result c.first_rows.ensures c.ends_by.ensures c.bands-test.true

pub bands-smaller : goal.bands-smaller
bands-smaller c =
    let y = to_z w32 (of_z w32 c.args.y) in
    let there = first_there y c.bands.bands.below c.first_rows.result c.ends_by.result c.first_rows.ensures c.ends_by.ensures c.bands-test.true in
    (moved_down y c.bands.bands c.advance.new.self there.0 there.1 c.bands.invariant.1 there.2 there.3 (c.advance.ensures there.0 there.1 there.2)).2

pub bands-preserved : goal.bands-preserved
bands-preserved c =
    let y = to_z w32 (of_z w32 c.args.y) in
    let there = first_there y c.bands.bands.below c.first_rows.result c.ends_by.result c.first_rows.ensures c.ends_by.ensures c.bands-test.true in
    let more = moved_down y c.bands.bands c.advance.new.self there.0 there.1 c.bands.invariant.1 there.2 there.3 (c.advance.ensures there.0 there.1 there.2) in
    (moved_on c.args.bands.now c.bands.bands c.advance.new.self c.bands.invariant.0 more.0, more.1)

pub returns : goal.returns
returns c =
    let same : to_z w32 (of_z w32 c.args.y) ≡ c.args.y = omega (arith, ints) in
    record { ends = subst (λ n. EndBy n c.bands.bands.above) same c.bands.invariant.1; moved = c.bands.invariant.0 }
