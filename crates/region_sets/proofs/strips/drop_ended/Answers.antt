use Rattle.std.proofs.Common.{rules, ◌≡◌, to_z, of_z, arith}
use Rattle.std.specs.Prelude.{FitsSigned, ◌≤ℤ◌}
use Rattle.std.specs.Int.{w32}
use Rattle.std.proofs.lemmas.Int.{ints, to_z-of_z}
use Rattle.region_sets.specs.KeepLemmas.{dropped}
use Rattle.region_sets.proofs.strips.drop_ended.Goals as goal

pub returns-then-rows-edge : goal.returns-then-rows-edge
returns-then-rows-edge c =
    let edge : FitsSigned w32 c.args.edge = c.ranges.edge in
    let bottom : FitsSigned w32 c.in-Some.rows.bottom = search rules in
    let e : to_z w32 (of_z w32 c.args.edge) ≡ c.args.edge = simp to_z-of_z in
    let b : to_z w32 (of_z w32 c.in-Some.rows.bottom) ≡ c.in-Some.rows.bottom = simp to_z-of_z in
    let low : c.in-Some.rows.bottom ≤ℤ c.args.edge = omega (arith, ints, e, b) in
    let all = dropped c.args.bands.now c.remove_first.new.self c.first_rows.result c.in-Some.rows c.args.edge c.first_rows.ensures c.in-Some.is low c.remove_first.ensures in
    record { spare = all.0; ended = all.1 }
