use Rattle.std.proofs.Common.{arith, rules}
use Rattle.std.specs.Prelude.{FitsSigned}
use Rattle.std.specs.Int.{w32}
use Rattle.std.proofs.lemmas.Int.{ints, to_z-of_z}
use Rattle.framebuffer.proofs.SpanLemmas.{destination_is}
use Rattle.framebuffer.proofs.spans.destination.Goals as goal

pub returns-clause-places : goal.returns-clause-places
returns-clause-places c = λ x y.
    let dx : FitsSigned w32 c.args.dx = c.ranges.dx in
    let dy : FitsSigned w32 c.args.dy = c.ranges.dy in
    let x1 : FitsSigned w32 c.args.rect.x1 = search rules in
    let y1 : FitsSigned w32 c.args.rect.y1 = search rules in
    let x2 : FitsSigned w32 c.args.rect.x2 = search rules in
    let y2 : FitsSigned w32 c.args.rect.y2 = search rules in
    let left : FitsSigned w32 c.kept_span-columns.result.from = search rules in
    let right : FitsSigned w32 c.kept_span-columns.result.to = search rules in
    let top : FitsSigned w32 c.kept_span-rows.result.from = search rules in
    let bottom : FitsSigned w32 c.kept_span-rows.result.to = search rules in
    rw (to_z-of_z w32 _ left, to_z-of_z w32 _ right, to_z-of_z w32 _ top, to_z-of_z w32 _ bottom) (destination_is c.args.rect _ _ _ _ c.args.width c.args.height c.args.dx c.args.dy x y
    (simp to_z-of_z at (c.kept_span-columns.ensures.same x))
    (simp to_z-of_z at (c.kept_span-rows.ensures.same y)))

pub returns-clause-inside : goal.returns-clause-inside
returns-clause-inside c =
    let left : FitsSigned w32 c.kept_span-columns.result.from = search rules in
    let right : FitsSigned w32 c.kept_span-columns.result.to = search rules in
    let top : FitsSigned w32 c.kept_span-rows.result.from = search rules in
    let bottom : FitsSigned w32 c.kept_span-rows.result.to = search rules in
    rw (to_z-of_z w32 _ left, to_z-of_z w32 _ right, to_z-of_z w32 _ top, to_z-of_z w32 _ bottom) (λ some high. record {
      left = c.kept_span-columns.ensures.low some;
      columns = some;
      right = c.kept_span-columns.ensures.high some;
      top = c.kept_span-rows.ensures.low high;
      rows = high;
      bottom = c.kept_span-rows.ensures.high high;
    })

pub returns-clause-source : goal.returns-clause-source
returns-clause-source c =
    let left : FitsSigned w32 c.kept_span-columns.result.from = search rules in
    let right : FitsSigned w32 c.kept_span-columns.result.to = search rules in
    let top : FitsSigned w32 c.kept_span-rows.result.from = search rules in
    let bottom : FitsSigned w32 c.kept_span-rows.result.to = search rules in
    let dx : FitsSigned w32 c.args.dx = c.ranges.dx in
    let dy : FitsSigned w32 c.args.dy = c.ranges.dy in
    rw (to_z-of_z w32 _ left, to_z-of_z w32 _ right, to_z-of_z w32 _ top, to_z-of_z w32 _ bottom) (λ some high.
    let by_low = simp to_z-of_z at (c.kept_span-columns.ensures.source_low some) in
    let by_high = simp to_z-of_z at (c.kept_span-columns.ensures.source_high some) in
    let row_low = simp to_z-of_z at (c.kept_span-rows.ensures.source_low high) in
    let row_high = simp to_z-of_z at (c.kept_span-rows.ensures.source_high high) in
    record {
      left = omega (arith, ints, by_low);
      columns = omega (arith, ints, some);
      right = omega (arith, ints, by_high);
      top = omega (arith, ints, row_low);
      rows = omega (arith, ints, high);
      bottom = omega (arith, ints, row_high);
    })
