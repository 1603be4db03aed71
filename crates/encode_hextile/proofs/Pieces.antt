-- A row of tiles of a rectangle by its own rows.
use Rattle.std.proofs.Common.{◌≡◌, ℕ, zero, suc, ◌+◌, ◌-◌, ◌*◌, ◌<◌, ◌++◌, min, List, [], ◌∷◌, take, drop, map, Result, Ok, Err, IfOk, OnOk, refl, sym, ap, ◌∙◌, arith, append_assoc}
use Rattle.std.specs.Int.{div_ceil}
use Rattle.std.specs.List.{flat_map, range_with_len}
use Rattle.std.proofs.Math.Nat.{zero-mul}
use Rattle.std.proofs.lemmas.Grind.{div_ceil_times}
use Rattle.std.proofs.lemmas.List.{take-map, drop-map, drop-drop, drop-take, take-take}
use Rattle.pixel_translate.specs.declared.PixelFormat.{PixelFormat}
use Rattle.pixel_translate.specs.Pixel.{pixel}
use Rattle.subrectangles.specs.declared.rows.Rows.{Rows}
use Rattle.subrectangles.specs.Subrectangles.{rows_of}
use Rattle.encode_hextile.specs.declared.Carried.{Carried}
use Rattle.encode_hextile.specs.Tiles.{Tile, pixel_rows, rows_of_tiles, tiles_in, tile_rows}
use Rattle.encode_hextile.specs.Hextile.{Coded, tile, tiles, carried_after}
use Rattle.encode_hextile.specs.Pieces.{hextile_from, IsRowOfTiles}
use Rattle.encode_hextile.proofs.Folds.{tiles_append}

-- ---- rows of pixels behind others, and the first of them

drop_rows : (w h k m : ℕ) (pixels : List ℕ) → h ≡ k + m → drop k (rows_of w h pixels) ≡ rows_of w m (drop (k * w) pixels)
unfolding rows_of
drop_rows w h zero m pixels e =
    ap (λ (n : ℕ). rows_of w n pixels) (let q : h ≡ m = omega (arith, e) in q) ∙ ap (λ (n : ℕ). rows_of w m (drop n pixels)) (sym (zero-mul w))
drop_rows w zero (suc k) m pixels e = absurd (omega (arith, e))
drop_rows w (suc h) (suc k) m pixels e =
    drop_rows w h k m (drop w pixels) (omega (arith, e)) ∙ ap (rows_of w m) (drop-drop (k * w) w pixels ∙ ap (λ (n : ℕ). drop n pixels) (let q : w + k * w ≡ suc k * w = omega arith in q))

take_rows : (w m h n : ℕ) (pixels : List ℕ) → n ≡ min m h → take m (rows_of w h pixels) ≡ rows_of w n (take (n * w) pixels)
unfolding rows_of
take_rows w zero h zero pixels e = refl
take_rows w zero h (suc n) pixels e = absurd (omega (arith, e))
take_rows w (suc m) zero zero pixels e = refl
take_rows w (suc m) zero (suc n) pixels e = absurd (omega (arith, e))
take_rows w (suc m) (suc h) zero pixels e = absurd (omega (arith, e))
take_rows w (suc m) (suc h) (suc n) pixels e =
    ap (λ (t : List (List ℕ)). take w pixels ∷ t) (take_rows w m h n (drop w pixels) (omega (arith, e)))
    ∙ ap (λ (t : List ℕ). t ∷ rows_of w n (take (n * w) (drop w pixels))) (sym (take-take w (suc n * w) pixels (omega arith)))
    ∙ ap (λ (t : List ℕ). take w (take (suc n * w) pixels) ∷ rows_of w n t)
    (sym (ap (λ (k : ℕ). drop w (take k pixels)) (let q : suc n * w ≡ w + n * w = omega arith in q) ∙ drop-take w (n * w) pixels))

pub own_rows : (f : PixelFormat) (r : Rows) (h : ℕ) (colours : List ℕ) (j : ℕ) → IsRowOfTiles r h colours j
    → rows_of_tiles (rows_of r.width h (map (pixel f) colours)) j ≡ pixel_rows f r
own_rows f r h colours j is =
    ap (take 16) (drop_rows r.width h (16 * j) (h - 16 * j) (map (pixel f) colours) (omega (arith, is.inside)))
    ∙ take_rows r.width 16 (h - 16 * j) r.height (drop (16 * j * r.width) (map (pixel f) colours)) is.high
    ∙ ap (λ (t : List ℕ). rows_of r.width r.height (take (r.height * r.width) t)) (drop-map (pixel f) (16 * j * r.width) colours)
    ∙ ap (rows_of r.width r.height) (take-map (pixel f) (r.height * r.width) (drop (16 * j * r.width) colours) ∙ ap (map (pixel f)) (sym is.places))

-- ---- one row of tiles by its own rows

abbrev at_row : ℕ → ℕ → Tile
at_row j i = record { column = i; row = j }

same_tile : (rows own : List (List ℕ)) (j i : ℕ) → rows_of_tiles rows j ≡ own → tile_rows own (at_row 0 i) ≡ tile_rows rows (at_row j i)
same_tile rows own j i e =
    ap (map (λ row. take 16 (drop (16 * i) row)))
    (ap (take 16) (sym e) ∙ take-take 16 16 (drop (16 * j) rows) (omega arith))

same_tiles : (f : PixelFormat) (rows own : List (List ℕ)) (j : ℕ) (columns : List ℕ) (carried : Carried) → rows_of_tiles rows j ≡ own
    → tiles f own carried (map (at_row 0) columns) ≡ tiles f rows carried (map (at_row j) columns)
same_tiles f rows own j [] carried e = refl
same_tiles f rows own j (i ∷ is) carried e =
    ap (λ (t : List (List ℕ)). let c = tile f carried t in c.bits ∷ c.bytes ++ tiles f own c.next (map (at_row 0) is)) (same_tile rows own j i e)
    ∙ ap (λ (more : List ℕ). here.bits ∷ here.bytes ++ more) (same_tiles f rows own j is here.next e)
  where
    here : Coded
    here = tile f carried (tile_rows rows (at_row j i))

same_carried : (f : PixelFormat) (rows own : List (List ℕ)) (j : ℕ) (columns : List ℕ) (carried : Carried) → rows_of_tiles rows j ≡ own
    → carried_after f own carried (map (at_row 0) columns) ≡ carried_after f rows carried (map (at_row j) columns)
same_carried f rows own j [] carried e = refl
same_carried f rows own j (i ∷ is) carried e =
    ap (λ (t : List (List ℕ)). carried_after f own (tile f carried t).next (map (at_row 0) is)) (same_tile rows own j i e)
    ∙ same_carried f rows own j is (tile f carried (tile_rows rows (at_row j i))).next e

-- ---- the data from a row of tiles on: that row, and the data behind it

one_row : (f : PixelFormat) (rows : List (List ℕ)) (w n j : ℕ) (before : Carried) → j < n
    → tiles f rows before (flat_map (tiles_in w) (range_with_len j (n - j)))
    ≡ tiles f rows before (tiles_in w j) ++ tiles f rows (carried_after f rows before (tiles_in w j)) (flat_map (tiles_in w) (range_with_len (j + 1) (n - (j + 1))))
one_row f rows w n j before lt =
    ap (λ (k : ℕ). tiles f rows before (flat_map (tiles_in w) (range_with_len j k))) (let e : n - j ≡ suc (n - (j + 1)) = omega (arith, lt) in e)
    ∙ tiles_append f rows before (tiles_in w j) (flat_map (tiles_in w) (range_with_len (j + 1) (n - (j + 1))))

below : (h j : ℕ) → 16 * j < h → j < div_ceil h 16
below h j lt =
    let bounds = div_ceil_times h 16 (omega arith) in
    omega (arith, bounds.0, lt)

pub goes_on : (f : PixelFormat) (r : Rows) (h : ℕ) (colours : List ℕ) (j : ℕ) (before next : Carried) (old new : List ℕ) → IsRowOfTiles r h colours j
    → new ≡ old ++ tiles f (pixel_rows f r) before (tiles_in r.width 0) → next ≡ carried_after f (pixel_rows f r) before (tiles_in r.width 0)
    → new ++ hextile_from f r.width h (map (pixel f) colours) next (j + 1) ≡ old ++ hextile_from f r.width h (map (pixel f) colours) before j
goes_on f r h colours j before next old new is e k =
    ap (λ (t : List ℕ). t ++ tiles f rows next rest) (e ∙ ap (λ (t : List ℕ). old ++ t) (same_tiles f rows own j columns before mine))
    ∙ ap (λ (c : Carried). (old ++ tiles f rows before (tiles_in r.width j)) ++ tiles f rows c rest) (k ∙ same_carried f rows own j columns before mine)
    ∙ append_assoc old (tiles f rows before (tiles_in r.width j)) (tiles f rows (carried_after f rows before (tiles_in r.width j)) rest)
    ∙ ap (λ (t : List ℕ). old ++ t) (sym (one_row f rows r.width (div_ceil h 16) j before (below h j is.inside)))
  where
    rows : List (List ℕ)
    rows = rows_of r.width h (map (pixel f) colours)

    own : List (List ℕ)
    own = pixel_rows f r

    columns : List ℕ
    columns = range_with_len 0 (div_ceil r.width 16)

    rest : List Tile
    rest = flat_map (tiles_in r.width) (range_with_len (j + 1) (div_ceil h 16 - (j + 1)))

    mine : rows_of_tiles rows j ≡ own
    mine = own_rows f r h colours j is

pub if_both_ok : {A E : Type 0} (r : Result A E) (P : Type 0) (Q S : A → Type 0) → OnOk r P → IfOk r Q → ((x : A) → P → Q x → S x) → IfOk r S
if_both_ok (Ok x) P Q S p q both = both x p q
if_both_ok (Err e) P Q S p q both = tt
