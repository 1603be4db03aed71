-- A rectangle's data, row of tiles by row of tiles.
use Rattle.std.proofs.Common.{◌≡◌, ℕ, zero, suc, ◌+◌, ◌-◌, ◌*◌, ◌<◌, ◌≤◌, List, [], ◌∷◌, ◌++◌, map, take, drop, min, refl, sym, ap, ◌∙◌, arith}
use Rattle.std.specs.Int.{div_ceil}
use Rattle.std.specs.List.{flat_map, range_with_len}
use Rattle.std.proofs.lemmas.Grind.{div_ceil_times}
use Rattle.pixel_translate.specs.declared.PixelFormat.{PixelFormat}
use Rattle.subrectangles.specs.declared.rows.Rows.{Rows}
use Rattle.subrectangles.specs.Subrectangles.{rows_of}
use Rattle.encode_hextile.specs.declared.Carried.{Carried}
use Rattle.encode_hextile.specs.Tiles.{Tile, tiles_in}
use Rattle.encode_hextile.specs.Hextile.{nothing, tiles, hextile_of}

-- 7.7.4: the data from a row of tiles on, with what the tiles before it left; from the first on, with nothing, it is all
abbrev pub hextile_from : PixelFormat → ℕ → ℕ → List ℕ → Carried → ℕ → List ℕ
hextile_from f w h pixels carried j = tiles f (rows_of w h pixels) carried (flat_map (tiles_in w) (range_with_len j (div_ceil h 16 - j)))

-- of a rectangle's h rows of colours, the at most 16 of one row of tiles
pub record IsRowOfTiles (r : Rows) (h : ℕ) (colours : List ℕ) (j : ℕ) : Type 0 where
  pub inside : 16 * j < h
  pub high : r.height ≡ min 16 (h - 16 * j)
  pub places : r.values.now ≡ take (r.height * r.width) (drop (16 * j * r.width) colours)

-- ---- where the data begin, go on, and end

pub all_data : (f : PixelFormat) (w h : ℕ) (pixels : List ℕ) → hextile_from f w h pixels nothing 0 ≡ hextile_of f w h pixels
all_data f w h pixels = ap (λ (k : ℕ). tiles f (rows_of w h pixels) nothing (flat_map (tiles_in w) (range_with_len 0 k))) (let e : div_ceil h 16 - 0 ≡ div_ceil h 16 = omega arith in e)

pub no_data : (f : PixelFormat) (w h : ℕ) (pixels : List ℕ) (carried : Carried) (j : ℕ) → h ≤ 16 * j → hextile_from f w h pixels carried j ≡ []
no_data f w h pixels carried j over =
    let bounds = div_ceil_times h 16 (omega arith) in
    ap (λ (k : ℕ). tiles f (rows_of w h pixels) carried (flat_map (tiles_in w) (range_with_len j k))) (let e : div_ceil h 16 - j ≡ 0 = omega (arith, bounds.1, over) in e)

is_some : (x : ℕ) (xs : List ℕ) → x ∷ xs ≡ [] → ⊥
is_some x xs none = cc

some_tiles : (f : PixelFormat) (rows : List (List ℕ)) (carried : Carried) (w j n : ℕ) (more : List Tile) → n ≡ div_ceil w 16 → 0 < n → tiles f rows carried (tiles_in w j ++ more) ≡ [] → ⊥
some_tiles f rows carried w j zero more e some none = absurd (omega (arith, some))
some_tiles f rows carried w j (suc n) more e some none =
    let first : tiles f rows carried (map (λ (i : ℕ). record { column = i; row = j }) (range_with_len 0 (suc n)) ++ more) ≡ [] =
    ap (λ (k : ℕ). tiles f rows carried (map (λ (i : ℕ). record { column = i; row = j }) (range_with_len 0 k) ++ more)) e ∙ none in
    is_some _ _ first

some_rows : (f : PixelFormat) (rows : List (List ℕ)) (carried : Carried) (w j k m : ℕ) → 1 ≤ w → m ≡ k → 0 < k → tiles f rows carried (flat_map (tiles_in w) (range_with_len j m)) ≡ [] → ⊥
some_rows f rows carried w j zero m wide e some none = absurd (omega (arith, some))
some_rows f rows carried w j (suc k) m wide e some none =
    let bounds = div_ceil_times w 16 (omega arith) in
    some_tiles f rows carried w j (div_ceil w 16) (flat_map (tiles_in w) (range_with_len (j + 1) k)) refl (omega (arith, bounds.0, wide))
    (ap (λ (n : ℕ). tiles f rows carried (flat_map (tiles_in w) (range_with_len j n))) (sym e) ∙ none)

pub some_data : (f : PixelFormat) (w h : ℕ) (pixels : List ℕ) (carried : Carried) (j : ℕ) → 1 ≤ w → 16 * j < h → hextile_from f w h pixels carried j ≡ [] → ⊥
some_data f w h pixels carried j wide inside none =
    let bounds = div_ceil_times h 16 (omega arith) in
    some_rows f (rows_of w h pixels) carried w j (div_ceil h 16 - j) (div_ceil h 16 - j) wide refl (omega (arith, bounds.0, inside)) none
