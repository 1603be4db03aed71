use Rattle.std.proofs.Common.{rules, ◌≡◌}
use Rattle.std.specs.Prelude.{FitsSigned}
use Rattle.std.specs.Int.{w32}
use Rattle.std.specs.Ordering.{int_eq}
use Rattle.std.proofs.lemmas.Int.{to_z-of_z}
use Rattle.region_sets.specs.SetLemmas.{ends_elsewhere, none_last}
use Rattle.region.proofs.stacking.touches_last.Goals as goal

pub returns-in-Some : goal.returns-in-Some
returns-in-Some c =
    let top : FitsSigned w32 c.args.rows.top = search rules in
    let bottom : FitsSigned w32 c.in-Some.last.bottom = search rules in
    let is_same : c.is_same.result ≡ int_eq c.in-Some.last.bottom c.args.rows.top = simp to_z-of_z at c.is_same.ensures in
    λ h front last is at. ends_elsewhere c.args.bands.now.above c.last_rows.result c.in-Some.last c.args.rows.top c.last_rows.ensures c.in-Some.is c.is_same.result is_same h front last is at

pub returns-in-None : goal.returns-in-None
returns-in-None c = λ h front last is at. none_last c.args.bands.now.above c.last_rows.result c.last_rows.ensures c.in-None.is front last is
