use Rattle.std.proofs.Common.{◌≡◌, Bool, true, false, cond, ◌&&◌, List, [], length, refl, sym, ◌∙◌, ap, subst, arith}
use Rattle.std.specs.Prelude.{ℤ}
use Rattle.region_bands.specs.declared.Interval.{Interval}
use Rattle.region_bands.specs.Bands.{Reading}
use Rattle.region_rows.specs.Rows.{IsRow, row_has, keeps_place, IsKept as IsRowKept}
use Rattle.region_sets.specs.RoomLemmas.{holds_nothing}
use Rattle.region_sets.proofs.counts.count_strip_room.Goals as goal

part_has : (t : Bool) (a : List Interval) (x : ℤ) → row_has (cond t a []) x ≡ (t && row_has a x)
part_has true a x = refl
part_has false a x = refl

row_if : (t : Bool) (row : List Interval) → IsRow row → IsRow (cond t row [])
row_if true row h = h
row_if false row h = tt

pub count_row-requires-clause-second_row : goal.count_row-requires-clause-second_row
count_row-requires-clause-second_row c =
    subst IsRow (sym (ap (λ (u : Reading). u.left) c.enter_strip-2.ensures ∙ ap (λ (u : Reading). cond c.args.in_second u.left []) c.again-counted_second.ensures))
    (row_if c.args.in_second c.args.second.now.left c.requires.second_row)

pub returns-then-keeps_nothing-clause-room : goal.returns-then-keeps_nothing-clause-room
returns-then-keeps_nothing-clause-room c =
    holds_nothing c.args.keep c.args.in_first c.args.in_second c.args.rows c.args.first.now.bands c.args.first.now.left c.args.second.now.left (sym c.keeps_nothing.ensures ∙ c.if-keeps_nothing.true)

pub returns-clause-room : goal.returns-clause-room
returns-clause-room c = λ whole row r some.
    let k = c.args.keep in
    let first = c.args.first.now.left in
    let second = c.args.second.now.left in
    let one = c.enter_strip.new.reader.left in
    let other = c.enter_strip-2.new.reader.left in
    let one_is : one ≡ cond c.args.in_first first [] = ap (λ (u : Reading). u.left) c.enter_strip.ensures ∙ ap (λ (u : Reading). cond c.args.in_first u.left []) c.again-counted_first.ensures in
    let other_is : other ≡ cond c.args.in_second second [] = ap (λ (u : Reading). u.left) c.enter_strip-2.ensures ∙ ap (λ (u : Reading). cond c.args.in_second u.left []) c.again-counted_second.ensures in
    let made : IsRowKept k one other row = record {
      is_row = r.is_row;
      has = λ x. r.has x ∙ sym (
          ap (λ l. keeps_place k (row_has l x) (row_has other x)) one_is ∙ ap (λ t. keeps_place k t (row_has other x)) (part_has c.args.in_first first x)
          ∙ ap (λ l. keeps_place k (c.args.in_first && row_has first x) (row_has l x)) other_is ∙ ap (keeps_place k (c.args.in_first && row_has first x)) (part_has c.args.in_second second x));
    } in
    let count : c.count_row.result ≡ length row = c.count_row.ensures.count row made in
    omega (arith, count)
