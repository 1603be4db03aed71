use Rattle.std.proofs.Common.{◌≡◌, arith, to_z, of_z, refl}
use Rattle.std.specs.Int.{w32}
use Rattle.std.proofs.lemmas.Int.{ints}
use Rattle.region_sets.proofs.RowLemmas.{skips_more, skips_done}
use Rattle.region_sets.proofs.rows.skip_before.Goals as goal

pub intervals-smaller : goal.intervals-smaller
intervals-smaller c = (skips_more (to_z w32 (of_z w32 c.args.x)) c.args.bands.now c.intervals.bands c.intervals.invariant c.first_left.result c.ends_by.result _ c.first_left.ensures c.ends_by.ensures refl c.skip_left.new.self c.intervals-test.true c.skip_left.ensures).1

pub intervals-preserved : goal.intervals-preserved
intervals-preserved c = (skips_more (to_z w32 (of_z w32 c.args.x)) c.args.bands.now c.intervals.bands c.intervals.invariant c.first_left.result c.ends_by.result _ c.first_left.ensures c.ends_by.ensures refl c.skip_left.new.self c.intervals-test.true c.skip_left.ensures).0

pub returns : goal.returns
returns c =
    let same : to_z w32 (of_z w32 c.args.x) ≡ c.args.x = omega (arith, ints) in
    skips_done c.args.x c.args.bands.now c.intervals.bands (rw (same) at c.intervals.invariant) c.first_left.result c.ends_by.result _ c.first_left.ensures c.ends_by.ensures same c.intervals-test.false
