-- The colours of rectangles, row by row.
use Rattle.std.proofs.Common.{◌≡◌, ℕ, ◌+◌, ◌-◌, ◌*◌, ◌/◌, ◌%◌, ◌<◌, ◌≤◌, List, ◌++◌, length, take, drop, get_or, sym, ◌∙◌, ap, subst, ⊎_elim, arith}
use Rattle.std.proofs.lemmas.Bool.{cases_lt}
use Rattle.std.proofs.lemmas.Nat.{mul-le, div-mul-add, mod-mul-add}
use Rattle.std.proofs.lemmas.List.{length-take-le, length-append, length-drop, get_or_append_left, get_or-append_right, get_or-take}
use Rattle.std.proofs.lemmas.List.FromFn.{fill_by_all, length-map-range_with_len, get_or-map-range_with_len}
use borrow.Rule.Slice.PartMut.{put_mid}
use Rattle.source_pixels.specs.Source.{Source, colour_at, colours_at}
use Rattle.source_pixels.specs.Differences.{block_colours}

-- the colours of the first rows of a rectangle are written
pub record AreWritten (s : Source) (left top columns rows row : ℕ) (colours : List ℕ) : Type 0 where
  pub long : length colours ≡ rows * columns
  pub done : (k : ℕ) → k < row * columns → get_or colours k 0 ≡ colour_at s (left + k % columns) (top + k / columns)

pub none_written : (s : Source) (left top columns rows : ℕ) (colours : List ℕ) → length colours ≡ rows * columns → AreWritten s left top columns rows 0 colours
none_written s left top columns rows colours long = record { long = long; done = λ k below. absurd (omega arith) }

pub row_written : (s : Source) (left top columns rows row : ℕ) (colours ys : List ℕ) (n : ℕ) → n ≡ columns → row < rows → AreWritten s left top columns rows row colours → ys ≡ colours_at s left (top + row) columns
    → AreWritten s left top columns rows (row + 1) (put_mid (row * columns) n colours ys)
row_written s left top columns rows row colours ys n same below h is = record {
  long =
      length-append (take (row * columns) colours) (ys ++ drop n (drop (row * columns) colours))
      ∙ (let a = length-append ys (drop n (drop (row * columns) colours)) in let b = length-drop n (drop (row * columns) colours) in let d = length-drop (row * columns) colours in
      let e = front_long in let f = row_long in let g = h.long in let q = fits in omega arith);
  done = λ k inside. ⊎_elim
      (λ before.
      get_or_append_left (take (row * columns) colours) _ 0 k (let e = front_long in omega arith)
      ∙ get_or-take (row * columns) colours k 0 before
      ∙ h.done k before)
      (λ here.
      let i : ℕ = k - row * columns in
      let small : i < columns = omega arith in
      let whole : k ≡ row * columns + i = omega arith in
      get_or-append_right (take (row * columns) colours) _ (row * columns) k 0 front_long here
      ∙ get_or_append_left ys _ 0 i (let f = row_long in omega arith)
      ∙ ap (λ (l : List ℕ). get_or l i 0) is
      ∙ get_or-map-range_with_len (λ j. colour_at s (left + j) (top + row)) 0 columns i i 0 small (omega arith)
      ∙ sym (ap (λ m. colour_at s (left + m % columns) (top + m / columns)) whole
      ∙ ap (λ m. colour_at s (left + m) (top + (row * columns + i) / columns)) (mod-mul-add row columns i small)
      ∙ ap (λ m. colour_at s (left + i) (top + m)) (div-mul-add row columns i small)))
      (cases_lt k (row * columns));
}
  where
    fits : row * columns + columns ≤ rows * columns
    fits = let e : row * columns + columns ≡ (row + 1) * columns = omega arith in let m = mul-le (row + 1) columns rows columns (omega arith) (omega arith) in omega arith

    front_long : length (take (row * columns) colours) ≡ row * columns
    front_long = length-take-le (row * columns) colours (let g = h.long in let f = fits in omega arith)

    row_long : length ys ≡ columns
    row_long = ap length is ∙ length-map-range_with_len (λ j. colour_at s (left + j) (top + row)) 0 columns

pub all_written : (s : Source) (left top columns rows row : ℕ) (colours : List ℕ) → row ≡ rows → AreWritten s left top columns rows row colours → colours ≡ block_colours s left top columns rows
all_written s left top columns rows row colours end h =
    fill_by_all (λ k. colour_at s (left + k % columns) (top + k / columns)) colours (rows * columns) 0 h.long
    (λ k below. h.done k (subst (λ m. k < m * columns) (sym end) below))

-- a row's part of a rectangle's places
pub part_long : (columns rows row : ℕ) (colours : List ℕ) → row < rows → length colours ≡ rows * columns → length (take (row * columns + columns - row * columns) (drop (row * columns) colours)) ≡ columns
part_long columns rows row colours below long =
    let e : row * columns + columns ≡ (row + 1) * columns = omega arith in
    let m = mul-le (row + 1) columns rows columns (omega arith) (omega arith) in
    let a = length-drop (row * columns) colours in
    length-take-le (row * columns + columns - row * columns) (drop (row * columns) colours) (omega arith) ∙ omega arith
