-- Pixels that come row by row, in runs.
use Rattle.std.proofs.Common.{◌≡◌, ℕ, zero, suc, ◌+◌, ◌-◌, ◌*◌, ◌<◌, ◌≤◌, Bool, true, false, cond, ◌&&◌, List, [], ◌∷◌, ◌++◌, length, slice_index, Option, Some, refl, ap, ◌∙◌, arith, ◌⊎◌, inl, inr}
use Rattle.std.specs.Prelude.{nat_le}
use Rattle.std.proofs.Math.Nat.{mul_comm, mul-add, zero-mul}
use Rattle.std.proofs.lemmas.Nat.{mul-add-lt, mul-le}
use Rattle.std.proofs.lemmas.Bool.{and_parts, leb-true, cases_lt}
use Rattle.std.proofs.lemmas.Bool.Decides.{nat_tests}
use mathlib.Core.Path.{fun_ext}
use Rattle.pixel_translate.specs.declared.Area.{Area}
use Rattle.pixel_translate.specs.Pixel.{server_format}
use Rattle.encode_raw.specs.Reading.{Dot, Shown, is_inside, patched, row_by_row}
use Rattle.server_reader.specs.Groups.{pixel_in}
use Rattle.server_reader.specs.Stages.{index_in, over, rows_below}
use Rattle.server_reader.specs.Steps.{rows_in}

abbrev dot : ℕ → Option Dot
dot pixel = Some (record { format = server_format; pixel = pixel })

-- ---- two lists as one

below_first : (xs ys : List ℕ) (k : ℕ) → k < length xs → slice_index (xs ++ ys) k ≡ slice_index xs k
below_first [] ys k below = absurd (omega (arith, below))
below_first (x ∷ xs) ys zero below = refl
below_first (x ∷ xs) ys (suc k) below = below_first xs ys k (omega (arith, below))

behind_first : (xs ys : List ℕ) (k m : ℕ) → k ≡ length xs + m → slice_index (xs ++ ys) k ≡ slice_index ys m
behind_first [] ys k m e = ap (slice_index ys) (let same : k ≡ m = omega (arith, e) in same)
behind_first (x ∷ xs) ys k m e =
    ap (slice_index (x ∷ xs ++ ys)) (let one : k ≡ suc (length xs + m) = omega (arith, e) in one) ∙ behind_first xs ys (length xs + m) m refl

-- ---- what one place shows

-- A place of what is left shows one pixel of all where it is in the run or in what is left behind it.
in_parts : (all rest run : Bool) (u v w : ℕ) (s : Option Dot) → (run ≡ true → (rest ≡ false) × (all ≡ true) × (u ≡ w)) → (rest ≡ true → (all ≡ true) × (u ≡ v))
    → (run ≡ false → rest ≡ false → all ≡ false) → cond all (dot u) s ≡ cond rest (dot v) (cond run (dot w) s)
in_parts all true run u v w s here behind none = let h = behind refl in ap (λ b. cond b (dot u) s) h.0 ∙ ap dot h.1
in_parts all false true u v w s here behind none = let h = here refl in ap (λ b. cond b (dot u) s) h.1 ∙ ap dot h.2
in_parts all false false u v w s here behind none = ap (λ b. cond b (dot u) s) (none refl refl)

pub record IsAt (a : Area) (x y : ℕ) : Type 0 where
  pub left : a.x ≤ x
  pub right : x < a.x + a.w
  pub top : a.y ≤ y
  pub bottom : y < a.y + a.h

pub is_at : (a : Area) (x y : ℕ) → is_inside a x y ≡ true → IsAt a x y
is_at a x y e =
    let yy = and_parts _ _ e in
    let ly = and_parts _ _ yy.0 in
    let xx = and_parts _ _ ly.0 in
    record { left = leb-true _ _ xx.0; right = leb-true _ _ xx.1; top = leb-true _ _ ly.1; bottom = leb-true _ _ yy.1 }

add_mul : (m n w : ℕ) → (m + n) * w ≡ m * w + n * w
add_mul m n w = mul_comm (m + n) w ∙ mul-add w m n ∙ ap (λ k. k + w * n) (mul_comm w m) ∙ ap (λ k. m * w + k) (mul_comm w n)

-- a place of the first row
first_row : (a : Area) (x y : ℕ) → y ≡ a.y → index_in a x y ≡ x - a.x
first_row a x y e =
    let none : y - a.y ≡ 0 = omega (arith, e) in
    let no_rows : (y - a.y) * a.w ≡ 0 = ap (λ n. n * a.w) none ∙ zero-mul a.w in
    omega (arith, no_rows)

-- ---- from the first pixel on

-- 7.7.1: what Raw shows is all pixels of its area
pub all_over : (a : Area) (pixels : List ℕ) (shown : Shown) → patched server_format a (row_by_row a.w pixels) shown ≡ over a 0 pixels shown
all_over a pixels shown = fun_ext (λ x. fun_ext (λ y.
    ap (λ b. cond b (dot (slice_index pixels (index_in a x y))) (shown x y)) (no_bound (is_inside a x y) (index_in a x y))
    ∙ ap (λ k. cond (is_inside a x y && nat_le 0 (index_in a x y)) (dot (slice_index pixels k)) (shown x y)) (let e : index_in a x y ≡ index_in a x y - 0 = omega arith in e)))
  where
    no_bound : (b : Bool) (k : ℕ) → b ≡ (b && nat_le 0 k)
    no_bound true k = grind (arith, nat_tests)
    no_bound false k = refl

-- an area without places shows nothing
pub none_over : (a : Area) (before : ℕ) (pixels : List ℕ) (shown : Shown) → (a.w ≡ 0) ⊎ (a.h ≡ 0) → over a before pixels shown ≡ shown
none_over a before pixels shown empty = fun_ext (λ x. fun_ext (λ y. ap (λ b. cond b (dot (slice_index pixels (index_in a x y - before))) (shown x y)) (outside x y)))
  where
    nowhere : (x y : ℕ) → is_inside a x y ≡ true → ⊥
    nowhere x y e = let at = is_at a x y e in elim empty [ inl none ↦ omega (arith, none, at.left, at.right) | inr none ↦ omega (arith, none, at.top, at.bottom) ]

    by : (x y : ℕ) (b c : Bool) → is_inside a x y ≡ b → (b && c) ≡ false
    by x y true c e = absurd (nowhere x y e)
    by x y false c e = refl

    outside : (x y : ℕ) → (is_inside a x y && nat_le before (index_in a x y)) ≡ false
    outside x y = by x y (is_inside a x y) (nat_le before (index_in a x y)) refl

-- ---- whole rows

module _ (a : Area) (rows : ℕ) (pixels others front : List ℕ) (shown : Shown)
    (inside : rows ≤ a.h) (long : length pixels ≡ rows * a.w) (are : (k : ℕ) → k < rows * a.w → slice_index pixels k ≡ pixel_in front (4 * k)) where
  abbrev first_rows : Area
  first_rows = record a { h = rows }

  -- a row further down
  shifted : (r X Y : ℕ) → r ≤ Y → Y * a.w + X ≡ r * a.w + ((Y - r) * a.w + X)
  shifted r X Y order =
      let whole : Y ≡ r + (Y - r) = omega (arith, order) in
      let sum : (r + (Y - r)) * a.w ≡ r * a.w + (Y - r) * a.w = add_mul r (Y - r) a.w in
      let all : Y * a.w ≡ (r + (Y - r)) * a.w = ap (λ n. n * a.w) whole in
      omega (arith, sum, all)

  here : (x y : ℕ) → is_inside first_rows x y ≡ true
      → ((is_inside (rows_below a rows) x y && nat_le 0 (index_in (rows_below a rows) x y)) ≡ false) × ((is_inside a x y && nat_le 0 (index_in a x y)) ≡ true)
      × (slice_index (pixels ++ others) (index_in a x y - 0) ≡ rows_in a.w front (x - a.x) (y - a.y))
  here x y e =
      let at = is_at first_rows x y e in
      let X : ℕ = x - a.x in
      let Y : ℕ = y - a.y in
      let below : Y * a.w + X < a.w * rows = mul-add-lt Y a.w X rows (omega (arith, at.top, at.bottom)) (omega (arith, at.left, at.right)) in
      let few : Y * a.w + X < rows * a.w = omega (arith, below, mul_comm a.w rows) in
      let same : index_in a x y - 0 ≡ Y * a.w + X = omega arith in (
        grind (arith, nat_tests, at.bottom),
        grind (arith, nat_tests, at.left, at.right, at.top, at.bottom, inside),
        ap (slice_index (pixels ++ others)) same ∙ below_first pixels others (Y * a.w + X) (omega (arith, few, long)) ∙ are (Y * a.w + X) few,
      )

  behind : (x y : ℕ) → (is_inside (rows_below a rows) x y && nat_le 0 (index_in (rows_below a rows) x y)) ≡ true
      → ((is_inside a x y && nat_le 0 (index_in a x y)) ≡ true) × (slice_index (pixels ++ others) (index_in a x y - 0) ≡ slice_index others (index_in (rows_below a rows) x y - 0))
  behind x y e =
      let at = is_at (rows_below a rows) x y (and_parts _ _ e).0 in
      let X : ℕ = x - a.x in
      let Y : ℕ = y - a.y in
      let lower : y - (a.y + rows) ≡ Y - rows = omega arith in
      let down : (y - (a.y + rows)) * a.w ≡ (Y - rows) * a.w = ap (λ n. n * a.w) lower in
      let shift = shifted rows X Y (omega (arith, at.top)) in (
        grind (arith, nat_tests, at.left, at.right, at.top, at.bottom, inside),
        behind_first pixels others (index_in a x y - 0) (index_in (rows_below a rows) x y - 0) (omega (arith, shift, down, long)),
      )

  neither : (x y : ℕ) → is_inside first_rows x y ≡ false → (is_inside (rows_below a rows) x y && nat_le 0 (index_in (rows_below a rows) x y)) ≡ false
      → (is_inside a x y && nat_le 0 (index_in a x y)) ≡ false
  neither x y = grind (arith, nat_tests, inside)

  pub rows_go_on : over a 0 (pixels ++ others) shown ≡ over (rows_below a rows) 0 others (patched server_format first_rows (rows_in a.w front) shown)
  rows_go_on = fun_ext (λ x. fun_ext (λ y.
      in_parts (is_inside a x y && nat_le 0 (index_in a x y)) (is_inside (rows_below a rows) x y && nat_le 0 (index_in (rows_below a rows) x y)) (is_inside first_rows x y)
      (slice_index (pixels ++ others) (index_in a x y - 0)) (slice_index others (index_in (rows_below a rows) x y - 0)) (rows_in a.w front (x - a.x) (y - a.y)) (shown x y)
      (here x y) (behind x y) (neither x y)))

-- ---- a part of a row

module _ (a : Area) (column width : ℕ) (pixels others front : List ℕ) (shown : Shown)
    (high : 0 < a.h) (long : length pixels ≡ width) (are : (k : ℕ) → k < width → slice_index pixels k ≡ pixel_in front (4 * k)) where
  abbrev row_part : Area
  row_part = record { x = a.x + column; y = a.y; w = width; h = 1 }

  -- those of the rows below are behind it
  below_first_row : (x y : ℕ) → a.y < y → a.w ≤ index_in a x y
  below_first_row x y lower = let more : 1 * a.w ≤ (y - a.y) * a.w = mul-le 1 a.w (y - a.y) a.w (omega (arith, lower)) (omega arith) in omega (arith, more)

  part_here : column + width ≤ a.w → (x y : ℕ) → is_inside row_part x y ≡ true
      → ((is_inside a x y && nat_le (column + width) (index_in a x y)) ≡ false) × ((is_inside a x y && nat_le column (index_in a x y)) ≡ true)
      × (slice_index (pixels ++ others) (index_in a x y - column) ≡ rows_in width front (x - (a.x + column)) (y - a.y))
  part_here fits x y e =
      let at = is_at row_part x y e in
      let first = first_row a x y (omega (arith, at.top, at.bottom)) in
      let few : x - a.x - column < width = omega (arith, at.left, at.right) in
      let same : index_in a x y - column ≡ x - a.x - column = omega (arith, first) in
      let none : (y - a.y) * width ≡ 0 = ap (λ n. n * width) (let zero_rows : y - a.y ≡ 0 = omega (arith, at.top, at.bottom) in zero_rows) ∙ zero-mul width in
      let one : 4 * (x - a.x - column) ≡ 4 * ((y - a.y) * width + (x - (a.x + column))) = omega (arith, none) in (
        grind (arith, nat_tests, first, at.right),
        grind (arith, nat_tests, first, at.left, at.right, at.top, at.bottom, fits, high),
        ap (slice_index (pixels ++ others)) same ∙ below_first pixels others (x - a.x - column) (omega (arith, few, long)) ∙ are (x - a.x - column) few ∙ ap (pixel_in front) one,
      )

  part_behind : (x y : ℕ) → (is_inside a x y && nat_le (column + width) (index_in a x y)) ≡ true
      → ((is_inside a x y && nat_le column (index_in a x y)) ≡ true) × (slice_index (pixels ++ others) (index_in a x y - column) ≡ slice_index others (index_in a x y - (column + width)))
  part_behind x y e =
      let parts = and_parts (is_inside a x y) (nat_le (column + width) (index_in a x y)) e in
      let more : column + width ≤ index_in a x y = leb-true (column + width) (index_in a x y) parts.1 in
      (grind (arith, nat_tests, parts.0, more), behind_first pixels others (index_in a x y - column) (index_in a x y - (column + width)) (omega (arith, more, long)))

  part_neither : column + width ≤ a.w → (x y : ℕ) → is_inside row_part x y ≡ false → (is_inside a x y && nat_le (column + width) (index_in a x y)) ≡ false
      → (is_inside a x y && nat_le column (index_in a x y)) ≡ false
  part_neither fits x y out more = by (is_inside a x y && nat_le column (index_in a x y)) refl
    where
      by : (b : Bool) → (is_inside a x y && nat_le column (index_in a x y)) ≡ b → (is_inside a x y && nat_le column (index_in a x y)) ≡ false
      by false e = e
      by true e =
          let parts = and_parts _ _ e in
          let at = is_at a x y parts.0 in
          elim (cases_lt a.y y) [
            | inl lower ↦ absurd (grind (arith, nat_tests, parts.0, below_first_row x y lower, fits, more))
            | inr same ↦ absurd (grind (arith, nat_tests, at.left, at.right, at.top, leb-true _ _ parts.1, first_row a x y (omega (arith, at.top, same)), out, more))
          ]

  pub part_goes_on : column + width ≤ a.w → over a column (pixels ++ others) shown ≡ over a (column + width) others (patched server_format row_part (rows_in width front) shown)
  part_goes_on fits = fun_ext (λ x. fun_ext (λ y.
      in_parts (is_inside a x y && nat_le column (index_in a x y)) (is_inside a x y && nat_le (column + width) (index_in a x y)) (is_inside row_part x y)
      (slice_index (pixels ++ others) (index_in a x y - column)) (slice_index others (index_in a x y - (column + width))) (rows_in width front (x - (a.x + column)) (y - a.y)) (shown x y)
      (part_here fits x y) (part_behind x y) (part_neither fits x y)))

-- A place shows one pixel of two lists.
in_both : (b c : Bool) (u v : ℕ) (s : Option Dot) → (c ≡ true → (b ≡ true) × (u ≡ v)) → (c ≡ false → b ≡ false) → cond b (dot u) s ≡ cond c (dot v) s
in_both b true u v s both none = let h = both refl in ap (λ t. cond t (dot u) s) h.0 ∙ ap dot h.1
in_both b false u v s both none = ap (λ t. cond t (dot u) s) (none refl)

-- a whole first row came: the rows below it are left
module _ (a : Area) (others : List ℕ) (shown : Shown) where
  lower_place : (x y : ℕ) → (is_inside (rows_below a 1) x y && nat_le 0 (index_in (rows_below a 1) x y)) ≡ true
      → ((is_inside a x y && nat_le a.w (index_in a x y)) ≡ true) × (slice_index others (index_in a x y - a.w) ≡ slice_index others (index_in (rows_below a 1) x y - 0))
  lower_place x y e =
      let at = is_at (rows_below a 1) x y (and_parts _ _ e).0 in
      let rows : y - a.y ≡ 1 + (y - (a.y + 1)) = omega (arith, at.top) in
      let all : (y - a.y) * a.w ≡ 1 * a.w + (y - (a.y + 1)) * a.w = ap (λ n. n * a.w) rows ∙ add_mul 1 (y - (a.y + 1)) a.w in
      let one : index_in a x y - a.w ≡ index_in (rows_below a 1) x y - 0 = omega (arith, all) in
      (grind (arith, nat_tests, at.left, at.right, at.top, at.bottom, all), ap (slice_index others) one)

  upper_place : (x y : ℕ) → (is_inside (rows_below a 1) x y && nat_le 0 (index_in (rows_below a 1) x y)) ≡ false
      → (is_inside a x y && nat_le a.w (index_in a x y)) ≡ false
  upper_place x y out = by (is_inside a x y && nat_le a.w (index_in a x y)) refl
    where
      by : (b : Bool) → (is_inside a x y && nat_le a.w (index_in a x y)) ≡ b → (is_inside a x y && nat_le a.w (index_in a x y)) ≡ false
      by false e = e
      by true e =
          let parts = and_parts _ _ e in
          let at = is_at a x y parts.0 in
          let far = leb-true _ _ parts.1 in
          elim (cases_lt a.y y) [
            | inl lower ↦ absurd (grind (arith, nat_tests, at.left, at.right, at.bottom, lower, out))
            | inr same ↦ absurd (omega (arith, far, at.right, first_row a x y (omega (arith, at.top, same))))
          ]

  pub row_ends : over a a.w others shown ≡ over (rows_below a 1) 0 others shown
  row_ends = fun_ext (λ x. fun_ext (λ y.
      in_both (is_inside a x y && nat_le a.w (index_in a x y)) (is_inside (rows_below a 1) x y && nat_le 0 (index_in (rows_below a 1) x y))
      (slice_index others (index_in a x y - a.w)) (slice_index others (index_in (rows_below a 1) x y - 0)) (shown x y) (lower_place x y) (upper_place x y)))
