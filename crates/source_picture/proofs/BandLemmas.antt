-- Rows that are put into a band.
use Rattle.std.proofs.Common.{◌≡◌, ℕ, ◌+◌, ◌-◌, ◌*◌, ◌<◌, ◌≤◌, ◌&&◌, nat_lt, nat_le, Bool, true, false, cond, List, length, take, drop, refl, sym, ap, ◌∙◌, arith}
use Rattle.std.specs.Prelude.{slice_index, ◌==◌}
use Rattle.std.proofs.lemmas.Bool.Decides.{nat_tests}
use Rattle.std.proofs.lemmas.List.{get_or-take, get_or-drop, length-take-le, length-drop}
use Rattle.pixel_translate.specs.declared.Area.{Area}
use Rattle.encode_raw.specs.Reading.{is_inside}
use Rattle.server_reader.specs.Groups.{pixel_in}

-- a row written over bytes, from a place on
pub record IsPut (old new row : List ℕ) (at : ℕ) : Type 0 where
  pub there : (k : ℕ) → at ≤ k → k < at + length row → slice_index new k ≡ slice_index row (k - at)
  pub before : (k : ℕ) → k < at → slice_index new k ≡ slice_index old k
  pub behind : (k : ℕ) → at + length row ≤ k → slice_index new k ≡ slice_index old k

-- four bytes at a place are those at another one
same_pixel : (a b : List ℕ) (j k : ℕ) → slice_index a j ≡ slice_index b k → slice_index a (j + 1) ≡ slice_index b (k + 1) → slice_index a (j + 2) ≡ slice_index b (k + 2)
    → slice_index a (j + 3) ≡ slice_index b (k + 3) → pixel_in a j ≡ pixel_in b k
same_pixel a b j k e f g h = omega (arith, e, f, g, h)

pixel_before : (old new row : List ℕ) (at k : ℕ) → IsPut old new row at → k + 4 ≤ at → pixel_in new k ≡ pixel_in old k
pixel_before old new row at k it h = same_pixel new old k k (it.before k (omega (arith, h))) (it.before (k + 1) (omega (arith, h))) (it.before (k + 2) (omega (arith, h))) (it.before (k + 3) (omega (arith, h)))

pixel_behind : (old new row : List ℕ) (at k : ℕ) → IsPut old new row at → at + length row ≤ k → pixel_in new k ≡ pixel_in old k
pixel_behind old new row at k it h = same_pixel new old k k (it.behind k h) (it.behind (k + 1) (omega (arith, h))) (it.behind (k + 2) (omega (arith, h))) (it.behind (k + 3) (omega (arith, h)))

pixel_in_row : (old new row : List ℕ) (at k : ℕ) → IsPut old new row at → k + 4 ≤ length row → pixel_in new (at + k) ≡ pixel_in row k
pixel_in_row old new row at k it h = same_pixel new row (at + k) k (ap (slice_index new) (let e : at + k ≡ at + k + 0 = omega arith in e) ∙ there 0 k (omega arith) (omega arith) (omega (arith, h))) (there 1 (k + 1) (omega arith) (omega arith) (omega (arith, h)))
    (there 2 (k + 2) (omega arith) (omega arith) (omega (arith, h))) (there 3 (k + 3) (omega arith) (omega arith) (omega (arith, h)))
  where
    there : (i j : ℕ) → k + i ≡ j → at + k + i ≡ at + j → j < length row → slice_index new (at + k + i) ≡ slice_index row j
    there i j e f l = ap (slice_index new) f ∙ it.there (at + j) (omega arith) (omega (arith, l)) ∙ ap (slice_index row) (let g : at + j - at ≡ j = omega arith in g)

-- some bytes of rows
pixel_of_rows : (rows : List ℕ) (from len k : ℕ) → k + 4 ≤ len → pixel_in (take len (drop from rows)) k ≡ pixel_in rows (from + k)
pixel_of_rows rows from len k h = same_pixel (take len (drop from rows)) rows k (from + k) (at k (omega (arith, h))) (at (k + 1) (omega (arith, h)) ∙ moved 1) (at (k + 2) (omega (arith, h)) ∙ moved 2) (at (k + 3) (omega (arith, h)) ∙ moved 3)
  where
    at : (i : ℕ) → i < len → slice_index (take len (drop from rows)) i ≡ slice_index rows (from + i)
    at i l = get_or-take len (drop from rows) i 0 l ∙ get_or-drop from rows i 0

    moved : (i : ℕ) → slice_index rows (from + (k + i)) ≡ slice_index rows (from + k + i)
    moved i = ap (slice_index rows) (omega arith)

-- a place in a row of an area
abbrev in_row : Area → (done x y : ℕ) → Bool
in_row a done x y = (y == a.y + done) && nat_le a.x x && nat_lt x (a.x + a.w)

-- one more row of an area
pub row_put : (a : Area) (old now new rows row : List ℕ) (done stride at : ℕ) → a.x + a.w ≤ 2048 → at ≡ 8192 * (a.y + done) + 4 * a.x → row ≡ take (4 * a.w) (drop (stride * done) rows) → length row ≡ 4 * a.w
    → IsPut now new row at
    → ((x y : ℕ) → x < 2048 → pixel_in now (4 * (y * 2048 + x)) ≡ cond (is_inside (record a { h = done }) x y) (pixel_in rows (stride * (y - a.y) + 4 * (x - a.x))) (pixel_in old (4 * (y * 2048 + x))))
    → (x y : ℕ) → x < 2048 → pixel_in new (4 * (y * 2048 + x)) ≡ cond (is_inside (record a { h = done + 1 }) x y) (pixel_in rows (stride * (y - a.y) + 4 * (x - a.x))) (pixel_in old (4 * (y * 2048 + x)))
row_put a old now new rows row done stride at wide at_is row_is long put so_far x y left = by (in_row a done x y) refl
  where
    there : ℕ
    there = pixel_in rows (stride * (y - a.y) + 4 * (x - a.x))

    here : ℕ
    here = pixel_in old (4 * (y * 2048 + x))

    more : in_row a done x y ≡ true → is_inside (record a { h = done + 1 }) x y ≡ true
    more e = grind (arith, nat_tests)

    same : in_row a done x y ≡ false → is_inside (record a { h = done }) x y ≡ is_inside (record a { h = done + 1 }) x y
    same e = grind (arith, nat_tests)

    row_is_y : in_row a done x y ≡ true → y ≡ a.y + done
    row_is_y e = grind (arith, nat_tests)

    from_x : in_row a done x y ≡ true → a.x ≤ x
    from_x e = grind (arith, nat_tests)

    to_x : in_row a done x y ≡ true → x < a.x + a.w
    to_x e = grind (arith, nat_tests)

    out : in_row a done x y ≡ false → (b : Bool) → nat_lt (4 * (y * 2048 + x)) at ≡ b → pixel_in new (4 * (y * 2048 + x)) ≡ pixel_in now (4 * (y * 2048 + x))
    out e true less = pixel_before now new row at (4 * (y * 2048 + x)) put (grind (arith, nat_tests))
    out e false less = pixel_behind now new row at (4 * (y * 2048 + x)) put (grind (arith, nat_tests))

    by : (b : Bool) → in_row a done x y ≡ b → pixel_in new (4 * (y * 2048 + x)) ≡ cond (is_inside (record a { h = done + 1 }) x y) there here
    by true e =
        let row_of = row_is_y e in
        let from = from_x e in
        let to = to_x e in
        let k : ℕ = 4 * (x - a.x) in
        let inner : k + 4 ≤ 4 * a.w = omega (arith, from, to) in
        let place : 4 * (y * 2048 + x) ≡ at + k = omega (arith, at_is, row_of, from) in
        ap (pixel_in new) place
        ∙ pixel_in_row now new row at k put (omega (arith, long, inner))
        ∙ ap (λ l. pixel_in l k) row_is
        ∙ pixel_of_rows rows (stride * done) (4 * a.w) k inner
        ∙ ap (λ n. pixel_in rows (stride * n + k)) (let e : done ≡ y - a.y = omega (arith, row_of) in e)
        ∙ sym (ap (λ b. cond b there here) (more e))
    by false e = out e (nat_lt (4 * (y * 2048 + x)) at) refl ∙ so_far x y left ∙ ap (λ b. cond b there here) (same e)

-- some bytes of rows, as they are cut
pub row_length : (rows : List ℕ) (from n : ℕ) → from + n ≤ length rows → length (take (from + n - from) (drop from rows)) ≡ n
row_length rows from n enough = length-take-le (from + n - from) (drop from rows) (let e = length-drop from rows in omega (arith, e, enough)) ∙ omega arith

pub row_cut : (rows : List ℕ) (from n w : ℕ) → n ≡ w → take (from + 4 * n - from) (drop from rows) ≡ take (4 * w) (drop from rows)
row_cut rows from n w e = ap (λ k. take k (drop from rows)) (omega (arith, e))
