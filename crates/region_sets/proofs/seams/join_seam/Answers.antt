use Rattle.std.proofs.Common.{◌≡◌, ◌∙◌, ap, sym, arith, to_z, of_z}
use Rattle.std.specs.Int.{w32}
use Rattle.std.specs.Prelude.{slice_get}
use Rattle.std.specs.Option.{option_map}
use Rattle.std.proofs.lemmas.Int.{ints}
use Rattle.std.proofs.lemmas.Option.{same_Some}
use Rattle.region_bands.specs.declared.Rows.{Rows}
use Rattle.region_bands.specs.Bands.{rows_of}
use Rattle.region_sets.proofs.SeamLemmas.{touch_there, touch_none, whole, seam_joined}
use Rattle.region_sets.proofs.seams.join_seam.Goals as goal
use Rattle.region_sets.proofs.seams.join_seam.Goals.{else-touch-via-then-touch+else-first_is_as_last, else-touch-via-else-touch}

pub returns-in-Some : goal.returns-in-Some
returns-in-Some c =
    let old = c.args.bands.now in
    let there = c.first_is_as_last.ensures.yes c.if-first_is_as_last.true in
    let front = there.0 in
    let last = there.1 in
    let first = there.2 in
    let rest = there.3 in
    let n = to_z w32 (of_z w32 c.in-Some.rows.bottom) in
    let same : n ≡ c.in-Some.rows.bottom = omega (arith, ints) in
    let rows : rows_of first ≡ c.in-Some.rows = same_Some (rows_of first) c.in-Some.rows (sym (ap (λ u. option_map rows_of (slice_get u 0)) there.5) ∙ sym c.first_rows-below.ensures ∙ c.in-Some.is) in
    let bottom : n ≡ first.bottom = same ∙ sym (ap (λ (r : Rows). r.bottom) rows) in
    let touched = touch_there old.above old.below front last first rest there.4 there.5 c.last_rows.result c.first_rows-below.result c.touch.result c.last_rows.ensures c.first_rows-below.ensures c.touch.ensures c.if-touch.true in
    let all = seam_joined old c.stretch.new.self c.remove_first.new.self front last first rest n c.requires.above c.requires.below there.4 there.5 there.6 touched bottom (c.stretch.ensures front last there.4) c.remove_first.ensures in
    record { are_bands = all.0; has = all.1; row = all.2; spare = all.3 }

pub returns-else-touch-clause-are_bands : goal.returns-else-touch-clause-are_bands
returns-else-touch-clause-are_bands c =
    let old = c.args.bands.now in
    whole old.above old.below c.requires.above c.requires.below c.requires.order (λ front last first rest e f touched. elim c.else-touch.branch [
      | else-touch-via-then-touch+else-first_is_as_last w ↦ w.first_is_as_last.ensures.no w.if-first_is_as_last.false front last first rest e f
      | else-touch-via-else-touch w ↦ λ same. touch_none old.above old.below front last first rest e f c.last_rows.result c.first_rows-below.result c.touch.result c.last_rows.ensures c.first_rows-below.ensures c.touch.ensures w.if-touch.false touched
    ])
