use Rattle.std.proofs.Common.{ap, length, arith}
use Rattle.region_bands.specs.Bands.{Reading}
use Rattle.region.proofs.SizeLemmas.{some_left}
use Rattle.region.proofs.sizes.has_few.Goals as goal

pub bands-smaller : goal.bands-smaller
bands-smaller c =
    let there = some_left c.bands.first.bands c.first_rows.result c.is_some.result c.first_rows.ensures c.is_some.ensures c.bands-test.true in
    omega (arith, ap (λ (u : Reading). length u.bands) (c.advance.ensures there.0 there.1 there.2), ap length there.2)
