use Rattle.std.proofs.Common.{◌≡◌, arith, to_z, of_z, refl}
use Rattle.std.specs.Int.{w32}
use Rattle.std.proofs.lemmas.Int.{ints}
use Rattle.region_sets.proofs.BandLemmas.{passed_begins, passes_more, passes_done}
use Rattle.region_sets.proofs.queries.pass_above.Goals as goal

pub bands-init : goal.bands-init
bands-init c = passed_begins (to_z w32 (of_z w32 c.args.y)) c.args.bands.now c.requires

pub bands-smaller : goal.bands-smaller
bands-smaller c = (passes_more (to_z w32 (of_z w32 c.args.y)) c.args.bands.now c.bands.bands c.bands.invariant c.first_rows.result c.rows_end_by.result _ c.first_rows.ensures c.rows_end_by.ensures refl c.advance.new.self c.bands-test.true c.advance.ensures).1

pub bands-preserved : goal.bands-preserved
bands-preserved c = (passes_more (to_z w32 (of_z w32 c.args.y)) c.args.bands.now c.bands.bands c.bands.invariant c.first_rows.result c.rows_end_by.result _ c.first_rows.ensures c.rows_end_by.ensures refl c.advance.new.self c.bands-test.true c.advance.ensures).0

pub returns : goal.returns
returns c =
    let same : to_z w32 (of_z w32 c.args.y) ≡ c.args.y = omega (arith, ints) in
    passes_done c.args.y c.args.bands.now c.bands.bands (rw (same) at c.bands.invariant) c.first_rows.result c.rows_end_by.result _ c.first_rows.ensures c.rows_end_by.ensures same c.bands-test.false
