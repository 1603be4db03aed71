use Rattle.std.proofs.Common.{◌≡◌, ◌∙◌, arith, rules, to_z, of_z}
use Rattle.std.specs.Int.{w32}
use Rattle.std.specs.Prelude.{FitsSigned}
use Rattle.std.proofs.lemmas.Int.{ints, to_z-of_z}
use Rattle.region_sets.specs.Strips.{nearer}
use Rattle.region_sets.specs.Walks.{farther}
use Rattle.region_sets.proofs.BoundsLemmas.{rectangle}
use Rattle.region_sets.proofs.queries.joined.Goals as goal

pub returns : goal.returns
returns c =
    let a = c.args.a in
    let b = c.args.b in
    let fits_1 : FitsSigned w32 c.args.a.rows.top = search rules in
    let fits_2 : FitsSigned w32 c.args.b.rows.top = search rules in
    let fits_3 : FitsSigned w32 c.args.a.rows.bottom = search rules in
    let fits_4 : FitsSigned w32 c.args.b.rows.bottom = search rules in
    let fits_5 : FitsSigned w32 c.args.a.columns.from = search rules in
    let fits_6 : FitsSigned w32 c.args.b.columns.from = search rules in
    let fits_7 : FitsSigned w32 c.args.a.columns.to = search rules in
    let fits_8 : FitsSigned w32 c.args.b.columns.to = search rules in
    let top : c.nearer.result ≡ nearer c.args.a.rows.top c.args.b.rows.top = simp to_z-of_z at c.nearer.ensures in
    let bottom : c.farther.result ≡ farther c.args.a.rows.bottom c.args.b.rows.bottom = simp to_z-of_z at c.farther.ensures in
    let from : c.nearer-2.result ≡ nearer c.args.a.columns.from c.args.b.columns.from = simp to_z-of_z at c.nearer-2.ensures in
    let to : c.farther-2.result ≡ farther c.args.a.columns.to c.args.b.columns.to = simp to_z-of_z at c.farther-2.ensures in
    let top_is : to_z w32 (of_z w32 c.nearer.result) ≡ c.nearer.result = omega (arith, ints) in
    let bottom_is : to_z w32 (of_z w32 c.farther.result) ≡ c.farther.result = omega (arith, ints) in
    let from_is : to_z w32 (of_z w32 c.nearer-2.result) ≡ c.nearer-2.result = omega (arith, ints) in
    let to_is : to_z w32 (of_z w32 c.farther-2.result) ≡ c.farther-2.result = omega (arith, ints) in
    rectangle _ _ _ _ _ _ _ _ (top_is ∙ top) (bottom_is ∙ bottom) (from_is ∙ from) (to_is ∙ to)
