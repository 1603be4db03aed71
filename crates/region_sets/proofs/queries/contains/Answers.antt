use Rattle.std.proofs.Common.{◌≡◌, ◌∙◌, ap, sym, subst, ◌&&◌, arith, to_z, of_z}
use Rattle.std.specs.Int.{w32}
use Rattle.std.specs.Prelude.{int_le}
use Rattle.std.proofs.lemmas.Int.{ints}
use Rattle.region_bands.specs.Bands.{Reading, reading}
use Rattle.region_rows.specs.Rows.{IsRow, row_has}
use Rattle.region_sets.specs.Walks.{below}
use Rattle.region_sets.proofs.BandLemmas.{rows_begin_by, row_of_first, below_bands, contains_found}
use Rattle.region_sets.proofs.queries.contains.Goals as goal

pub row_contains-requires : goal.row_contains-requires
row_contains-requires c = subst IsRow (sym (ap (λ (u : Reading). u.left) c.pass_above.ensures)) (row_of_first (below _ c.args.bands.now.bands) (below_bands _ c.args.bands.now.bands c.requires.are_bands))

pub returns-then-rows-y : goal.returns-then-rows-y
returns-then-rows-y c =
    let x : to_z w32 (of_z w32 c.args.x) ≡ c.args.x = omega (arith, ints) in
    let y : to_z w32 (of_z w32 c.args.y) ≡ c.args.y = omega (arith, ints) in
    let top : to_z w32 (of_z w32 c.in-Some.rows.top) ≡ c.in-Some.rows.top = omega (arith, ints) in
    let left = c.pass_above.new.bands.left in
    let at = contains_found c.args.x c.args.y c.args.bands.now.bands c.pass_above.new.bands c.first_rows.result c.requires.are_bands (c.pass_above.ensures ∙ ap (λ n. reading (below n c.args.bands.now.bands)) y) c.first_rows.ensures in
    c.row_contains.ensures ∙ ap (row_has left) x ∙ ap (λ t. t && row_has left c.args.x) (sym c.if-rows-y.true ∙ ap (λ n. int_le n (to_z w32 (of_z w32 c.args.y))) top ∙ ap (int_le c.in-Some.rows.top) y)
    ∙ sym (ap (λ f. rows_begin_by c.args.y f && row_has left c.args.x) c.in-Some.is) ∙ at

pub returns-else-rows-y : goal.returns-else-rows-y
returns-else-rows-y c =
    let y : to_z w32 (of_z w32 c.args.y) ≡ c.args.y = omega (arith, ints) in
    let top : to_z w32 (of_z w32 c.in-Some.rows.top) ≡ c.in-Some.rows.top = omega (arith, ints) in
    let left = c.pass_above.new.bands.left in
    let at = contains_found c.args.x c.args.y c.args.bands.now.bands c.pass_above.new.bands c.first_rows.result c.requires.are_bands (c.pass_above.ensures ∙ ap (λ n. reading (below n c.args.bands.now.bands)) y) c.first_rows.ensures in
    c.if-rows-y.false ∙ ap (λ t. t && row_has left c.args.x) (sym c.if-rows-y.false ∙ ap (λ n. int_le n (to_z w32 (of_z w32 c.args.y))) top ∙ ap (int_le c.in-Some.rows.top) y)
    ∙ sym (ap (λ f. rows_begin_by c.args.y f && row_has left c.args.x) c.in-Some.is) ∙ at

pub returns-in-None : goal.returns-in-None
returns-in-None c =
    let y : to_z w32 (of_z w32 c.args.y) ≡ c.args.y = omega (arith, ints) in
    let left = c.pass_above.new.bands.left in
    let at = contains_found c.args.x c.args.y c.args.bands.now.bands c.pass_above.new.bands c.first_rows.result c.requires.are_bands (c.pass_above.ensures ∙ ap (λ n. reading (below n c.args.bands.now.bands)) y) c.first_rows.ensures in
    sym (ap (λ f. rows_begin_by c.args.y f && row_has left c.args.x) c.in-None.is) ∙ at
