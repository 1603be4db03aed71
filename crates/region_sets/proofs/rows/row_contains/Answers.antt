use Rattle.std.proofs.Common.{◌≡◌, ◌∙◌, ap, sym, arith, to_z, of_z}
use Rattle.std.specs.Int.{w32}
use Rattle.std.specs.Prelude.{int_le}
use Rattle.std.proofs.lemmas.Int.{ints}
use Rattle.region_bands.specs.Bands.{Reading}
use Rattle.region_sets.specs.Walks.{behind}
use Rattle.region_sets.proofs.RowLemmas.{begins_by, contains_found}
use Rattle.region_sets.proofs.rows.row_contains.Goals as goal

pub returns-in-Some : goal.returns-in-Some
returns-in-Some c =
    let x : to_z w32 (of_z w32 c.args.x) ≡ c.args.x = omega (arith, ints) in
    let from : to_z w32 (of_z w32 c.in-Some.interval.from) ≡ c.in-Some.interval.from = omega (arith, ints) in
    let at = contains_found c.args.x c.args.bands.now.left c.skip_before.new.bands c.first_left.result c.requires (ap (λ (u : Reading). u.left) c.skip_before.ensures ∙ ap (λ n. behind n c.args.bands.now.left) x) c.first_left.ensures in
    ap (λ n. int_le n (to_z w32 (of_z w32 c.args.x))) from ∙ ap (int_le c.in-Some.interval.from) x ∙ sym (ap (begins_by c.args.x) c.in-Some.is) ∙ at

pub returns-in-None : goal.returns-in-None
returns-in-None c =
    let x : to_z w32 (of_z w32 c.args.x) ≡ c.args.x = omega (arith, ints) in
    let at = contains_found c.args.x c.args.bands.now.left c.skip_before.new.bands c.first_left.result c.requires (ap (λ (u : Reading). u.left) c.skip_before.ensures ∙ ap (λ n. behind n c.args.bands.now.left) x) c.first_left.ensures in
    sym (ap (begins_by c.args.x) c.in-None.is) ∙ at
