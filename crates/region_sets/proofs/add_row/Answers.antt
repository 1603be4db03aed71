use Rattle.std.proofs.Common.{rules, to_z, of_z, ◌≡◌, ◌∙◌, [], ◌∷◌, ◌++◌, ap, sym}
use Rattle.std.specs.Prelude.{FitsSigned}
use Rattle.std.specs.Int.{w32}
use Rattle.std.proofs.lemmas.Int.{to_z-of_z}
use Rattle.region_bands.specs.Bands.{band_with}
use Rattle.region_sets.specs.SetLemmas.{Parts, put_makes, stretched_makes, same_row, other_row, apart_row, some_row}
use Rattle.region_sets.proofs.add_row.Goals as goal
use Rattle.region_sets.proofs.add_row.Goals.{else-last_ends_at-via-then-last_ends_at+else-row_is_as_last, else-last_ends_at-via-else-last_ends_at}

pub returns-then-row_is_as_last : goal.returns-then-row_is_as_last
returns-then-row_is_as_last c =
    let fits : FitsSigned w32 c.args.rows.top = search rules in
    let top : to_z w32 (of_z w32 c.args.rows.top) ≡ c.args.rows.top = simp to_z-of_z in
    let fits' : FitsSigned w32 c.args.rows.bottom = search rules in
    let bottom : to_z w32 (of_z w32 c.args.rows.bottom) ≡ c.args.rows.bottom = simp to_z-of_z in
    let bs = c.args.bands.now.above in
    let there = c.last_ends_at.ensures.yes c.if-last_ends_at.true in
    let same = same_row bs there.0 there.1 c.args.bands.now.row c.row_is_as_last.result there.2 c.row_is_as_last.ensures c.if-row_is_as_last.true in
    let all = stretched_makes c.args.bands.now c.stretch.new.self c.drop_row.new.self c.args.rows there.0 there.1 c.requires.are_bands c.requires.ends c.requires.some there.2 (there.3 ∙ top) same (c.stretch.ensures there.0 there.1 there.2 ∙ ap (λ n. record c.args.bands.now { above = there.0 ++ record there.1 { bottom = n } ∷ [] }) bottom) c.drop_row.ensures.spare c.drop_row.ensures.row in
    record { are_bands = all.0; ends = all.1; has = all.2; same = all.3; spare = all.4 }

pub returns-else-last_ends_at : goal.returns-else-last_ends_at
returns-else-last_ends_at c =
    let fits : FitsSigned w32 c.args.rows.top = search rules in
    let top : to_z w32 (of_z w32 c.args.rows.top) ≡ c.args.rows.top = simp to_z-of_z in
    let bs = c.args.bands.now.above in
    let row = c.args.bands.now.row in
    let parts : Parts bs (band_with c.args.rows row) = elim c.else-last_ends_at.branch [
      | else-last_ends_at-via-then-last_ends_at+else-row_is_as_last w ↦ other_row bs c.args.rows row w.row_is_as_last.result w.row_is_as_last.ensures w.if-row_is_as_last.false
      | else-last_ends_at-via-else-last_ends_at w ↦ apart_row bs c.args.rows row (λ front last is at. c.last_ends_at.ensures.no w.if-last_ends_at.false front last is (at ∙ sym top))
    ] in
    let all = put_makes c.args.bands.now c.put_row.new.self c.args.rows c.requires.are_bands c.requires.ends c.requires.some c.requires.row (some_row row c.row_is_empty.result c.row_is_empty.ensures c.if-row_is_empty.false) parts c.put_row.ensures.spare c.put_row.ensures.band in
    record { are_bands = all.0; ends = all.1; has = all.2; same = all.3; spare = all.4 }
