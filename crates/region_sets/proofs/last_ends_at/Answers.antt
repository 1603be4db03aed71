use Rattle.std.proofs.Common.{rules, ◌≡◌}
use Rattle.std.specs.Prelude.{FitsSigned}
use Rattle.std.specs.Int.{w32}
use Rattle.std.specs.Ordering.{int_eq}
use Rattle.std.proofs.lemmas.Int.{to_z-of_z}
use Rattle.region_sets.specs.SetLemmas.{ends_there, ends_elsewhere, none_last}
use Rattle.region_sets.proofs.last_ends_at.Goals as goal

pub returns-in-Some-clause-yes : goal.returns-in-Some-clause-yes
returns-in-Some-clause-yes c =
    let y : FitsSigned w32 c.args.y = c.ranges.y in
    let bottom : FitsSigned w32 c.in-Some.rows.bottom = search rules in
    let is_same : c.is_same.result ≡ int_eq c.in-Some.rows.bottom c.args.y = simp to_z-of_z at c.is_same.ensures in
    λ h. ends_there c.args.bands.now.above c.last_rows.result c.in-Some.rows c.args.y c.last_rows.ensures c.in-Some.is c.is_same.result is_same h

pub returns-in-Some-clause-no : goal.returns-in-Some-clause-no
returns-in-Some-clause-no c =
    let y : FitsSigned w32 c.args.y = c.ranges.y in
    let bottom : FitsSigned w32 c.in-Some.rows.bottom = search rules in
    let is_same : c.is_same.result ≡ int_eq c.in-Some.rows.bottom c.args.y = simp to_z-of_z at c.is_same.ensures in
    λ h front last is at. ends_elsewhere c.args.bands.now.above c.last_rows.result c.in-Some.rows c.args.y c.last_rows.ensures c.in-Some.is c.is_same.result is_same h front last is at

pub returns-in-None-clause-no : goal.returns-in-None-clause-no
returns-in-None-clause-no c = λ h front last is at. none_last c.args.bands.now.above c.last_rows.result c.last_rows.ensures c.in-None.is front last is
