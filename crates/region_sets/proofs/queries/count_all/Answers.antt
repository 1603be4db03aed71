use Rattle.std.proofs.Common.{refl, arith, rules}
use Rattle.std.specs.Prelude.{pos, negsuc, ◌≤ℤ◌, FitsSigned}
use Rattle.std.specs.Int.{w32}
use Rattle.std.proofs.lemmas.Int.{ints}
use Rattle.region_sets.proofs.BandLemmas.{counting_more}
use Rattle.region_sets.proofs.queries.count_all.Goals as goal

pub loop-bands-smaller : goal.loop-bands-smaller
loop-bands-smaller c =
    let fits : FitsSigned w32 c.in-Some.field-0.top = search rules in
    let low : negsuc 2147483647 ≤ℤ c.in-Some.field-0.top = omega (arith, ints, fits) in
    let high : c.in-Some.field-0.top ≤ℤ pos 2147483647 = omega (arith, ints, fits) in
    (counting_more c.args.each c.args.bands.now c.loop-bands.bands c.loop-bands.count c.loop-bands.invariant c.first_rows.result c.first_rows.ensures c.in-Some.field-0 c.count_left.new.bands c.advance.new.self _ c.count_left.result c.in-Some.is low high c.requires.each c.count_left.ensures.count c.count_left.ensures.few refl c.count_left.ensures.read c.advance.ensures).1

pub loop-bands-preserved : goal.loop-bands-preserved
loop-bands-preserved c =
    let fits : FitsSigned w32 c.in-Some.field-0.top = search rules in
    let low : negsuc 2147483647 ≤ℤ c.in-Some.field-0.top = omega (arith, ints, fits) in
    let high : c.in-Some.field-0.top ≤ℤ pos 2147483647 = omega (arith, ints, fits) in
    (counting_more c.args.each c.args.bands.now c.loop-bands.bands c.loop-bands.count c.loop-bands.invariant c.first_rows.result c.first_rows.ensures c.in-Some.field-0 c.count_left.new.bands c.advance.new.self _ c.count_left.result c.in-Some.is low high c.requires.each c.count_left.ensures.count c.count_left.ensures.few refl c.count_left.ensures.read c.advance.ensures).0
