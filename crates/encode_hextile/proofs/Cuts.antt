-- A tile cut out of the rows of a rectangle.
use Rattle.std.proofs.Common.{◌≡◌, ℕ, zero, suc, ◌+◌, ◌-◌, ◌*◌, ◌<◌, ◌≤◌, ◌++◌, min, List, [], ◌∷◌, length, take, drop, map, get_or, set, refl, sym, ap, ◌∙◌, arith, length-append, append_assoc, append-nil}
use Rattle.std.specs.List.{concat}
use borrow.Rule.Slice.PartMut.{put_mid}
use Rattle.std.proofs.Math.Nat.{suc-mul, mul-suc, zero-mul, mul-zero, zero-min, min-zero, min-le_right, mul-le-mul_right}
use Rattle.std.proofs.Math.ListN.{drop_of_length-le}
use Rattle.std.proofs.Math.Seq.{take-length, set-append_seam, take-append_seam, drop-append_seam}
use Rattle.std.proofs.lemmas.List.{take-append-drop, map_more, drop_more, take_more, take-map, drop-map, drop-drop, drop-take, take-take, length-take, length-take-le, length-drop, length-map, get_or-map, get_or-take, get_or-drop}
use Rattle.std.proofs.lemmas.List.Folds.{concat-append}
use Rattle.subrectangles.specs.Subrectangles.{rows_of, row_at}
use Rattle.subrectangles.specs.Scans.{row_is, rows_count}
use Rattle.encode_hextile.specs.Tiles.{Tile, tile_rows}

-- one place more is written
pub one_more : (f : ℕ → ℕ) (colours old now : List ℕ) (x v : ℕ) → x < length colours → length old ≡ length colours → now ≡ map f (take x colours) ++ drop x old → v ≡ f (get_or colours x 0)
    → set now x v ≡ map f (take (x + 1) colours) ++ drop (x + 1) old
one_more f colours old now x v lt len e h =
    ap (λ (t : List ℕ). set t x v) (e ∙ ap (λ (t : List ℕ). written ++ t) (drop_more old x 0 (omega (arith, len, lt))))
    ∙ ap (λ (k : ℕ). set (written ++ get_or old x 0 ∷ drop (x + 1) old) k v) (sym size)
    ∙ set-append_seam written (get_or old x 0) (drop (x + 1) old) v
    ∙ ap (λ (t : ℕ). written ++ t ∷ drop (x + 1) old) h
    ∙ sym (append_assoc written (f (get_or colours x 0) ∷ []) (drop (x + 1) old))
    ∙ ap (λ (t : List ℕ). t ++ drop (x + 1) old) (sym (map_more f colours x 0 lt))
  where
    written : List ℕ
    written = map f (take x colours)

    size : length written ≡ x
    size = length-map (take x colours) f ∙ length-take-le x colours (omega arith)

-- a row of a tile
abbrev pub piece : ℕ → List ℕ → List ℕ
piece column row = take 16 (drop (16 * column) row)

take-nil : (n : ℕ) → take {A = ℕ} n [] ≡ []
take-nil zero = refl
take-nil (suc n) = refl

cut_row : (w column n : ℕ) (pixels : List ℕ) → 16 * column < w → piece column (take w (drop n pixels)) ≡ take (min 16 (w - 16 * column)) (drop (n + 16 * column) pixels)
cut_row w column n pixels lt =
    ap (λ (k : ℕ). take 16 (drop (16 * column) (take k (drop n pixels)))) (let e : w ≡ 16 * column + (w - 16 * column) = omega arith in e)
    ∙ ap (take 16) (drop-take (16 * column) (w - 16 * column) (drop n pixels) ∙ ap (take (w - 16 * column)) (drop-drop (16 * column) n pixels ∙ ap (λ (k : ℕ). drop k pixels) (let e : n + 16 * column ≡ n + 16 * column = refl in e)))
    ∙ both 16 (w - 16 * column) (drop (n + 16 * column) pixels)
  where
    both : (m n : ℕ) (xs : List ℕ) → take m (take n xs) ≡ take (min m n) xs
    both zero n xs = sym (ap (λ (k : ℕ). take k xs) (zero-min n))
    both (suc m) zero xs = sym (ap (λ (k : ℕ). take k xs) (min-zero (suc m)))
    both (suc m) (suc n) [] = sym (take-nil (min (suc m) (suc n)))
    both (suc m) (suc n) (x ∷ xs) = ap (λ (t : List ℕ). x ∷ t) (both m n xs) ∙ ap (λ (k : ℕ). take k (x ∷ xs)) (let e : suc (min m n) ≡ min (suc m) (suc n) = omega arith in e)

-- a tile's place in a rectangle of w by h
abbrev pub tile_at : ℕ → ℕ → Tile
tile_at column row = record { column = column; row = row }

pub tile_height : (w h : ℕ) (pixels : List ℕ) (column row : ℕ) → length (tile_rows (rows_of w h pixels) (tile_at column row)) ≡ min 16 (h - 16 * row)
tile_height w h pixels column row =
    length-map (take 16 (drop (16 * row) (rows_of w h pixels))) (piece column) ∙ length-take 16 (drop (16 * row) (rows_of w h pixels))
    ∙ ap (min 16) (length-drop (16 * row) (rows_of w h pixels) ∙ ap (λ (k : ℕ). k - 16 * row) (rows_count w h pixels))

pub tile_row : (f : ℕ → ℕ) (w h : ℕ) (colours : List ℕ) (column row y : ℕ) → 16 * column < w → y < min 16 (h - 16 * row)
    → get_or (tile_rows (rows_of w h (map f colours)) (tile_at column row)) y [] ≡ map f (take (min 16 (w - 16 * column)) (drop ((16 * row + y) * w + 16 * column) colours))
tile_row f w h colours column row y left lt =
    get_or-map (piece column) (take 16 (drop (16 * row) rows)) y [] [] (omega (arith, lt, length-take 16 (drop (16 * row) rows), length-drop (16 * row) rows, rows_count w h (map f colours)))
    ∙ ap (piece column) (get_or-take 16 (drop (16 * row) rows) y [] (omega (arith, lt)) ∙ get_or-drop (16 * row) rows y [] ∙ row_is w h (map f colours) (16 * row + y) (omega (arith, lt)))
    ∙ cut_row w column ((16 * row + y) * w) (map f colours) left
    ∙ ap (take across) (drop-map f from colours) ∙ take-map f across (drop from colours)
  where
    rows : List (List ℕ)
    rows = rows_of w h (map f colours)

    across : ℕ
    across = min 16 (w - 16 * column)

    from : ℕ
    from = (16 * row + y) * w + 16 * column

-- a row of a tile lies within the colours
pub row_inside : (w h column row y : ℕ) → 16 * column < w → y < min 16 (h - 16 * row) → (16 * row + y) * w + 16 * column + min 16 (w - 16 * column) ≤ w * h
row_inside w h column row y left lt =
    let rows : suc (16 * row + y) * w ≤ h * w = mul-le-mul_right w (let a : suc (16 * row + y) ≤ h = omega (arith, lt) in a) in
    omega (arith, rows, suc-mul (16 * row + y) w)

pub tile_width : (f : ℕ → ℕ) (w h : ℕ) (colours : List ℕ) (column row y : ℕ) → length colours ≡ w * h → 16 * column < w → y < min 16 (h - 16 * row)
    → length (get_or (tile_rows (rows_of w h (map f colours)) (tile_at column row)) y []) ≡ min 16 (w - 16 * column)
tile_width f w h colours column row y whole left lt =
    ap (length {A = ℕ}) (tile_row f w h colours column row y left lt) ∙ length-map (take across (drop from colours)) f
    ∙ length-take-le across (drop from colours) (omega (arith, length-drop from colours, row_inside w h column row y left lt, whole))
  where
    across : ℕ
    across = min 16 (w - 16 * column)

    from : ℕ
    from = (16 * row + y) * w + 16 * column

-- the row of the colours that it is cut from
pub source_row : (f : ℕ → ℕ) (w h : ℕ) (colours : List ℕ) (column row y : ℕ) (source : List ℕ) → 16 * column < w → y < min 16 (h - 16 * row) → source ≡ row_at (rows_of w h colours) (16 * row + y)
    → get_or (tile_rows (rows_of w h (map f colours)) (tile_at column row)) y [] ≡ map f (take (min 16 (w - 16 * column)) (drop (16 * column) source))
source_row f w h colours column row y source left lt e =
    tile_row f w h colours column row y left lt
    ∙ ap (map f) (sym (ap (λ (t : List ℕ). take (min 16 (w - 16 * column)) (drop (16 * column) t)) (e ∙ row_is w h colours (16 * row + y) (omega (arith, lt))) ∙ inner))
  where
    n : ℕ
    n = (16 * row + y) * w

    inner : take (min 16 (w - 16 * column)) (drop (16 * column) (take w (drop n colours))) ≡ take (min 16 (w - 16 * column)) (drop (n + 16 * column) colours)
    inner =
        ap (λ (k : ℕ). take (min 16 (w - 16 * column)) (drop (16 * column) (take k (drop n colours)))) (let q : w ≡ 16 * column + (w - 16 * column) = omega arith in q)
        ∙ ap (take (min 16 (w - 16 * column))) (drop-take (16 * column) (w - 16 * column) (drop n colours))
        ∙ take-take (min 16 (w - 16 * column)) (w - 16 * column) (drop (16 * column) (drop n colours)) (min-le_right 16 (w - 16 * column))
        ∙ ap (take (min 16 (w - 16 * column))) (drop-drop (16 * column) n colours)

-- a row of a tile lies within the tile
pub places_inside : (y across down n : ℕ) → y < down → n ≡ across * down → y * across + across ≤ n
places_inside y across down n lt e =
    let rows : suc y * across ≤ down * across = mul-le-mul_right across lt in
    omega (arith, rows, suc-mul y across, e)

-- ---- row by row

pub concat_more : (rows : List (List ℕ)) (y : ℕ) → y < length rows → concat (take (y + 1) rows) ≡ concat (take y rows) ++ get_or rows y []
concat_more rows y lt =
    ap concat (take_more rows y [] lt) ∙ concat-append (take y rows) (get_or rows y [] ∷ []) ∙ ap (λ (t : List ℕ). concat (take y rows) ++ t) (append-nil (get_or rows y []))

pub rows_length : (rows : List (List ℕ)) (w y : ℕ) → ((k : ℕ) → k < length rows → length (get_or rows k []) ≡ w) → y ≤ length rows → length (concat (take y rows)) ≡ y * w
rows_length rows w zero each le = sym (zero-mul w)
rows_length rows w (suc y) each le =
    let before = rows_length rows w y each (omega arith) in
    let e : suc y ≡ y + 1 = omega arith in
    ap (λ (k : ℕ). length (concat (take k rows))) e ∙ ap (length {A = ℕ}) (concat_more rows y (omega arith)) ∙ length-append (concat (take y rows)) (get_or rows y [])
    ∙ omega (arith, before, each y (omega arith), suc-mul y w)

-- one row more is written
pub row_written : (rows : List (List ℕ)) (old now new : List ℕ) (y w k : ℕ) → y < length rows → length (concat (take y rows)) ≡ y * w → k ≡ w → now ≡ concat (take y rows) ++ drop (y * w) old
    → new ≡ get_or rows y [] → put_mid (y * w) k now new ≡ concat (take (y + 1) rows) ++ drop ((y + 1) * w) old
row_written rows old now new y w k lt len same e h =
    ap (λ (t : List ℕ). take (y * w) t ++ (new ++ drop k (drop (y * w) t))) e
    ∙ ap (λ (t : List ℕ). t ++ (new ++ drop k (drop (y * w) (written ++ rest)))) (ap (λ (n : ℕ). take n (written ++ rest)) (sym len) ∙ take-append_seam written rest)
    ∙ ap (λ (t : List ℕ). written ++ (new ++ drop k t)) (ap (λ (n : ℕ). drop n (written ++ rest)) (sym len) ∙ drop-append_seam written rest)
    ∙ ap (λ (t : List ℕ). written ++ (new ++ t)) (drop-drop k (y * w) old ∙ ap (λ (n : ℕ). drop n old) (let q : y * w + k ≡ (y + 1) * w = omega (arith, same, suc-mul y w, one) in q))
    ∙ ap (λ (t : List ℕ). written ++ (t ++ drop ((y + 1) * w) old)) h
    ∙ sym (append_assoc written (get_or rows y []) (drop ((y + 1) * w) old))
    ∙ ap (λ (t : List ℕ). t ++ drop ((y + 1) * w) old) (sym (concat_more rows y lt))
  where
    written : List ℕ
    written = concat (take y rows)

    rest : List ℕ
    rest = drop (y * w) old

    one : suc y * w ≡ (y + 1) * w
    one = ap (λ (n : ℕ). n * w) (let q : suc y ≡ y + 1 = omega arith in q)

pub all_written : (rows : List (List ℕ)) (old : List ℕ) (y n : ℕ) → y ≡ length rows → length old ≤ n → concat (take y rows) ++ drop n old ≡ concat rows
all_written rows old y n e le =
    ap (λ (t : List ℕ). concat (take y rows) ++ t) (drop_of_length-le old le) ∙ append-nil (concat (take y rows)) ∙ ap (λ (k : ℕ). concat (take k rows)) e ∙ ap concat (take-length rows)

-- ---- pixels as rows, and rows as pixels

pub concat_rows : (w h : ℕ) (pixels : List ℕ) → length pixels ≡ w * h → concat (rows_of w h pixels) ≡ pixels
unfolding rows_of
concat_rows w zero pixels e = sym (no_length pixels (omega (arith, e, mul-zero w)))
  where
    no_length : (xs : List ℕ) → length xs ≡ 0 → xs ≡ []
    no_length [] e = refl
    no_length (x ∷ xs) e = absurd (omega (arith, e))
concat_rows w (suc h) pixels e =
    ap (λ (t : List ℕ). take w pixels ++ t) (concat_rows w h (drop w pixels) (omega (arith, length-drop w pixels, e, mul-suc w h))) ∙ take-append-drop w pixels

pub rows_concat : (w : ℕ) (rows : List (List ℕ)) → ((k : ℕ) → k < length rows → length (get_or rows k []) ≡ w) → rows_of w (length rows) (concat rows) ≡ rows
unfolding rows_of
rows_concat w [] each = refl
rows_concat w (r ∷ rows) each =
    let more = rows_concat w rows (λ k lt. each (suc k) (omega arith)) in
    let len : length r ≡ w = each 0 (omega arith) in
    ap (λ (t : List ℕ). t ∷ rows_of w (length rows) (drop w (r ++ concat rows))) (ap (λ (n : ℕ). take n (r ++ concat rows)) (sym len) ∙ take-append_seam r (concat rows))
    ∙ ap (λ (t : List ℕ). r ∷ rows_of w (length rows) t) (ap (λ (n : ℕ). drop n (r ++ concat rows)) (sym len) ∙ drop-append_seam r (concat rows))
    ∙ ap (λ (t : List (List ℕ)). r ∷ t) more

-- a tile's pixels are its rows again
pub tile_again : (f : ℕ → ℕ) (w h : ℕ) (colours : List ℕ) (column row across down : ℕ) (pixels : List ℕ) → length colours ≡ w * h → 16 * column < w → across ≡ min 16 (w - 16 * column) → down ≡ min 16 (h - 16 * row)
    → pixels ≡ concat (tile_rows (rows_of w h (map f colours)) (tile_at column row)) → rows_of across down pixels ≡ tile_rows (rows_of w h (map f colours)) (tile_at column row)
tile_again f w h colours column row across down pixels whole left wide high e =
    ap (rows_of across down) e ∙ ap (λ (n : ℕ). rows_of across n (concat rows)) (high ∙ sym (tile_height w h (map f colours) column row))
    ∙ rows_concat across rows (λ k lt. tile_width f w h colours column row k whole left (omega (arith, lt, tile_height w h (map f colours) column row)) ∙ sym wide)
  where
    rows : List (List ℕ)
    rows = tile_rows (rows_of w h (map f colours)) (tile_at column row)

pub tile_size : (f : ℕ → ℕ) (w h : ℕ) (colours : List ℕ) (column row across down : ℕ) → length colours ≡ w * h → 16 * column < w → across ≡ min 16 (w - 16 * column) → down ≡ min 16 (h - 16 * row)
    → length (concat (tile_rows (rows_of w h (map f colours)) (tile_at column row))) ≡ across * down
tile_size f w h colours column row across down whole left wide high =
    ap (λ (t : List (List ℕ)). length (concat t)) (sym (take-length rows))
    ∙ rows_length rows across (length rows) (λ k lt. tile_width f w h colours column row k whole left (omega (arith, lt, tall)) ∙ sym wide) (omega arith)
    ∙ ap (λ (n : ℕ). n * across) (tall ∙ sym high) ∙ turned
  where
    rows : List (List ℕ)
    rows = tile_rows (rows_of w h (map f colours)) (tile_at column row)

    tall : length rows ≡ min 16 (h - 16 * row)
    tall = tile_height w h (map f colours) column row

    turned : down * across ≡ across * down
    turned = omega arith

-- a tile's pixels, in the front of longer places, are its rows again
pub tile_in_front : (f : ℕ → ℕ) (w h : ℕ) (colours : List ℕ) (column row across down : ℕ) (pixels more : List ℕ) → length colours ≡ w * h → 16 * column < w → across ≡ min 16 (w - 16 * column) → down ≡ min 16 (h - 16 * row)
    → pixels ≡ concat (tile_rows (rows_of w h (map f colours)) (tile_at column row)) → rows_of across down (take (across * down) (pixels ++ more)) ≡ tile_rows (rows_of w h (map f colours)) (tile_at column row)
tile_in_front f w h colours column row across down pixels more whole left wide high e =
    ap (rows_of across down)
    (ap (λ (n : ℕ). take n (pixels ++ more)) (sym (ap (length {A = ℕ}) e ∙ tile_size f w h colours column row across down whole left wide high)) ∙ take-append_seam pixels more)
    ∙ tile_again f w h colours column row across down pixels whole left wide high e
