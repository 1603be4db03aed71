-- A picture by rows.
use Rattle.std.proofs.Common.{◌≡◌, ℕ, ℤ, true, ◌+◌, ◌*◌, ◌<◌, ◌≤◌, ◌++◌, List, length, map, take, drop, get_or, All, arith, length-append, sym, ap, ◌∙◌, mul_comm, Result, Ok, Err, OnErr}
use Rattle.std.proofs.lemmas.List.{length-map, length-take-le, length-drop}
use Rattle.std.proofs.lemmas.Simd.{map-map}
use Rattle.std.specs.List.{take-map, drop-map}
use Rattle.std.proofs.lemmas.List.Elements.{All-append, All-take, All-drop}
use Rattle.framebuffer.specs.declared.rows.Row.{Row}
use Rattle.framebuffer.specs.declared.blocks.Block.{Block}
use Rattle.framebuffer.specs.Rows.{row_colours, colours_of_rows, row_part, parts_of_rows, IsOfWidth, HasRows, frame_of, HasParts, part_of}
use Rattle.framebuffer.specs.Frame.{Frame, IsPicture, IsPart}
use Rattle.framebuffer.specs.Blocks.{block_rect, block_colours}
use Rattle.framebuffer.specs.Picture.{written, moved_colours}
use Rattle.region.specs.declared.Rect.{Rect}
use Rattle.region.specs.Region.{covers}
use Rattle.framebuffer.specs.Moves.{colour_moved}
use Rattle.framebuffer.specs.BlockLemmas.{IsWritten}
use Rattle.framebuffer.specs.PictureLemmas.{written_is, moved_is}
use Rattle.framebuffer.proofs.RowLemmas.{flat_long, flat_same, wide_same, part_long, parts_read}

-- rows whose colours are as they were
pub rows_kept : (w h : ℕ) (old now : List Row) → map row_colours now ≡ map row_colours old → HasRows w h old → HasRows w h now
rows_kept w h old now same has = record {
  some_columns = has.some_columns;
  columns = has.columns;
  some_rows = has.some_rows;
  rows = has.rows;
  count = sym (length-map now row_colours) ∙ ap length same ∙ length-map old row_colours ∙ has.count;
  wide = wide_same w now old same has.wide;
}

pub frame_kept : (w h : ℕ) (old now : List Row) → map row_colours now ≡ map row_colours old → frame_of w h now ≡ frame_of w h old
frame_kept w h old now same = ap (with_colours w h) (flat_same row_colours w now old same)
  where
    with_colours : ℕ → ℕ → List ℕ → Frame
    with_colours w h l = record { width = w; height = h; colours = l }

pub frame_written : (w h : ℕ) (b : Block) (colours : List ℕ) (old now : List Row) → HasRows w h old → HasRows w h now → IsWritten w b colours (colours_of_rows old) (colours_of_rows now)
    → frame_of w h now ≡ record (frame_of w h old) { colours = written w h (block_rect b) colours (colours_of_rows old) }
frame_written w h b colours old now had has done =
    ap (with_colours w h) (written_is w h b colours (colours_of_rows old) (colours_of_rows now) had.some_columns (size old had) (size now has ∙ sym (size old had)) done)
  where
    with_colours : ℕ → ℕ → List ℕ → Frame
    with_colours w h l = record { width = w; height = h; colours = l }

    size : (rows : List Row) → HasRows w h rows → length (colours_of_rows rows) ≡ w * h
    size rows has = flat_long row_colours w rows has.wide ∙ ap (λ n. n * w) has.count ∙ mul_comm h w

size : (w h : ℕ) (rows : List Row) → HasRows w h rows → length (colours_of_rows rows) ≡ w * h
size w h rows has = flat_long row_colours w rows has.wide ∙ ap (λ n. n * w) has.count ∙ mul_comm h w

pub frame_moved : (w h : ℕ) (pieces : List Rect) (by : ℤ × ℤ) (old now : List Row) → HasRows w h old → HasRows w h now
    → ((y x : ℕ) → y < h → x < w → get_or (colours_of_rows now) (y * w + x) 0 ≡ colour_moved w h pieces by (λ row. true) (colours_of_rows old) y x)
    → frame_of w h now ≡ record (frame_of w h old) { colours = moved_colours w h (covers pieces) by (colours_of_rows old) }
frame_moved w h pieces by old now had has done =
    ap (with_colours w h) (moved_is w h pieces by (colours_of_rows old) (colours_of_rows now) had.some_columns (size w h old had) (size w h now has ∙ sym (size w h old had)) done)
  where
    with_colours : ℕ → ℕ → List ℕ → Frame
    with_colours w h l = record { width = w; height = h; colours = l }

pub on_err : {A E : Type 0} (r : Result A E) (P : Type 0) → P → OnErr r P
on_err (Ok a) P p = tt
on_err (Err e) P p = p

-- a picture of rows has a colour for each of its places
pub is_picture : (w h : ℕ) (rows : List Row) → HasRows w h rows → IsPicture (frame_of w h rows)
is_picture w h rows has = record { some_columns = has.some_columns; columns = has.columns; some_rows = has.some_rows; rows = has.rows; places = size w h rows has }

pub is_part : (left columns : ℕ) (rows : List Row) → HasParts left columns rows → IsPart (part_of left columns rows)
is_part left columns rows has = record {
  columns = has.columns;
  rows = has.rows;
  places = flat_long (row_part left columns) columns rows (λ k d inside. part_long left columns (row_colours (get_or rows k d)) (has.wide k d inside)) ∙ mul_comm (length rows) columns;
}

-- rows are put in the place of as many others
pub rows_put : (w h top : ℕ) (old others : List Row) → HasRows w h old → All (IsOfWidth w) others → top + length others ≤ length old → HasRows w h (take top old ++ (others ++ drop (top + length others) old))
rows_put w h top old others has wide fits = record {
  some_columns = has.some_columns;
  columns = has.columns;
  some_rows = has.some_rows;
  rows = has.rows;
  count = omega (arith, length-append (take top old) (others ++ drop (top + length others) old), length-append others (drop (top + length others) old), length-take-le top old (omega arith), length-drop (top + length others) old, has.count);
  wide = All-append (IsOfWidth w) (take top old) (others ++ drop (top + length others) old) (All-take (IsOfWidth w) top old has.wide)
      (All-append (IsOfWidth w) others (drop (top + length others) old) wide (All-drop (IsOfWidth w) (top + length others) old has.wide));
}

-- rows that are as many as others, and as wide
pub rows_sized : (w h : ℕ) (old now : List Row) → HasRows w h old → length now ≡ length old → All (IsOfWidth w) now → HasRows w h now
rows_sized w h old now has count wide = record { some_columns = has.some_columns; columns = has.columns; some_rows = has.some_rows; rows = has.rows; count = count ∙ has.count; wide = wide }

-- rows with the colours of some of a picture's rows
module _ (w h : ℕ) (b : Block) (old shared : List Row) (has : HasRows w h old) (wide : b.left + b.columns ≤ w) (high : b.top + b.rows ≤ h) (are : map row_colours shared ≡ take b.rows (drop b.top (map row_colours old))) where
  abbrev these : List Row
  these = take b.rows (drop b.top old)

  same : map row_colours shared ≡ map row_colours these
  same = are ∙ ap (take b.rows) (drop-map row_colours b.top old) ∙ take-map row_colours b.rows (drop b.top old)

  pub parts_wide : All (IsOfWidth w) shared
  parts_wide = wide_same w shared these same (All-take (IsOfWidth w) b.rows (drop b.top old) (All-drop (IsOfWidth w) b.top old has.wide))

  pub parts_count : length shared ≡ b.rows
  parts_count = sym (length-map shared row_colours) ∙ ap length same ∙ length-map these row_colours ∙ length-take-le b.rows (drop b.top old) (omega (arith, length-drop b.top old, has.count, high))

  pub parts_taken : HasParts b.left b.columns shared
  parts_taken = record {
    columns = omega (arith, wide, has.columns);
    rows = omega (arith, parts_count, high, has.rows);
    wide = λ k d below. let e = parts_wide k d below in omega (arith, e, wide);
  }

  pub part_taken : part_of b.left b.columns shared ≡ record { width = b.columns; height = b.rows; colours = block_colours w b (colours_of_rows old) }
  part_taken = ap of_height parts_count ∙ ap with_colours
      (flat_same (row_part b.left b.columns) 0 shared these (sym (map-map (λ l. take b.columns (drop b.left l)) row_colours shared) ∙ ap (map (λ l. take b.columns (drop b.left l))) same ∙ map-map (λ l. take b.columns (drop b.left l)) row_colours these)
      ∙ parts_read w b old b.rows wide (omega (arith, high, has.count)) has.wide)
    where
      of_height : ℕ → Frame
      of_height n = record { width = b.columns; height = n; colours = parts_of_rows b.left b.columns shared }

      with_colours : List ℕ → Frame
      with_colours l = record { width = b.columns; height = b.rows; colours = l }
