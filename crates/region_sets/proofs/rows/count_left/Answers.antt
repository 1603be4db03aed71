use Rattle.std.proofs.Common.{refl, arith, rules}
use Rattle.std.specs.Prelude.{pos, negsuc, ◌≤ℤ◌, FitsSigned}
use Rattle.std.specs.Int.{w32}
use Rattle.std.proofs.lemmas.Int.{ints}
use Rattle.region_sets.proofs.RowLemmas.{counting_begins, counting_more, counting_done}
use Rattle.region_sets.proofs.rows.count_left.Goals as goal

pub loop-count-init : goal.loop-count-init
loop-count-init c = counting_begins c.args.bands.now c.requires

pub loop-count-smaller : goal.loop-count-smaller
loop-count-smaller c =
    let fits : FitsSigned w32 c.in-Some.field-0.from = search rules in
    let low : negsuc 2147483647 ≤ℤ c.in-Some.field-0.from = omega (arith, ints, fits) in
    let high : c.in-Some.field-0.from ≤ℤ pos 2147483647 = omega (arith, ints, fits) in
    (counting_more c.args.bands.now c.loop-count.bands c.loop-count.count c.loop-count.invariant c.first_left.result c.first_left.ensures c.in-Some.field-0 c.skip_left.new.self _ c.in-Some.is low high refl c.skip_left.ensures).1

pub loop-count-preserved : goal.loop-count-preserved
loop-count-preserved c =
    let fits : FitsSigned w32 c.in-Some.field-0.from = search rules in
    let low : negsuc 2147483647 ≤ℤ c.in-Some.field-0.from = omega (arith, ints, fits) in
    let high : c.in-Some.field-0.from ≤ℤ pos 2147483647 = omega (arith, ints, fits) in
    (counting_more c.args.bands.now c.loop-count.bands c.loop-count.count c.loop-count.invariant c.first_left.result c.first_left.ensures c.in-Some.field-0 c.skip_left.new.self _ c.in-Some.is low high refl c.skip_left.ensures).0

pub returns-clause-count : goal.returns-clause-count
returns-clause-count c = (counting_done c.args.bands.now c.loop-count.bands c.loop-count.count c.loop-count.invariant c.first_left.result c.first_left.ensures c.in_default.is).0

pub returns-clause-read : goal.returns-clause-read
returns-clause-read c = (counting_done c.args.bands.now c.loop-count.bands c.loop-count.count c.loop-count.invariant c.first_left.result c.first_left.ensures c.in_default.is).1
