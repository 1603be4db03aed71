-- A rectangle in Hextile is read back.
use Rattle.std.proofs.Common.{◌≡◌, ℕ, zero, suc, pos, ◌+◌, ◌-◌, ◌*◌, ◌/◌, ◌%◌, ◌^◌, ◌<◌, ◌≤◌, ◌⊎◌, inl, inr, ◌&&◌, min, Bool, true, false, cond, eqb, List, [], ◌∷◌, ◌++◌, length, take, drop, map, get_or, Contains, Option, Some, refl, sym, ap, subst, ◌∙◌, arith, append_assoc, FitsSigned, length-append}
use Rattle.std.specs.List.{flat_map, concat, range_with_len}
use Rattle.std.specs.Int.{w32, div_ceil}
use Rattle.std.proofs.lemmas.Bool.{cases_lt, eqb-true, eq-eqb}
use Rattle.std.proofs.lemmas.List.{get_or-map, get_or-take, get_or-drop, length-map, length-take, length-drop, get_or_append_left}
use Rattle.std.proofs.Math.Seq.{get_or-append_right}
use Rattle.std.proofs.Math.Nat.{mul-lt-mul_of_pos_left}
use Rattle.std.proofs.lemmas.List.Elements.{Contains-append_left, Contains-append_right}
use Rattle.std.proofs.lemmas.Nat.{mul-add-lt}
use Rattle.pixel_translate.specs.declared.PixelFormat.{PixelFormat}
use Rattle.pixel_translate.specs.Pixel.{bit_count, pixel, bits_of}
use Rattle.pixel_translate.specs.Bounds.{pixel_below}
use Rattle.encode_raw.specs.Raw.{head}
use Rattle.encode_raw.specs.Reading.{◌>>=◌, head_at, Patch}
use Rattle.encode_raw.specs.Claims.{pixels_of}
use Rattle.encode_raw.specs.Back.{head_back, same_patched}
use Rattle.subrectangles.specs.Subrectangles.{FindsTheBackground, ListsTheSubrectangles, rows_of, pixel_in}
use Rattle.subrectangles.specs.Listed.{head_of, tail_of, cases_of, not_in_none, flat_cases, range_cases}
use Rattle.subrectangles.specs.Scans.{rows_count}
use Rattle.subrectangles.specs.Paint.{and_true}
use Rattle.encode_hextile.specs.declared.Carried.{Carried}
use Rattle.encode_hextile.specs.Tiles.{Tile, tiles_in, tiles_of, tile_rows}
use Rattle.encode_hextile.specs.Hextile.{nothing, tile, tiles, hextile_of}
use Rattle.encode_hextile.specs.Reading.{TileRead, tiles_at, with_tile}
use Rattle.encode_hextile.specs.Claims.{hextile_reads_back}
use Rattle.encode_hextile.proofs.Cuts.{piece, tile_again, tile_size, tile_height, tile_row}
use Rattle.encode_hextile.proofs.TileBack.{Below, TileBack, tile_back, place_is}

-- ---- each pixel of a tile has room in the format

below_map : (f : PixelFormat) (colours : List ℕ) → Below f (map (pixel f) colours)
below_map f colours k lt =
    subst (λ (p : ℕ). p < 2 ^ bit_count (bits_of f)) (sym (get_or-map (pixel f) colours k 0 0 (omega (arith, lt, length-map colours (pixel f))))) (pixel_below f (get_or colours k 0))

below_concat : (f : PixelFormat) (rows : List (List ℕ)) → ((j : ℕ) → j < length rows → Below f (get_or rows j [])) → Below f (concat rows)
below_concat f [] each k lt = absurd (omega arith)
below_concat f (r ∷ rows) each k lt =
    let more = below_concat f rows (λ j below. each (suc j) (omega arith)) in
    elim (cases_lt k (length r)) [
      | inl low ↦ subst (λ (p : ℕ). p < 2 ^ bit_count (bits_of f)) (sym (get_or_append_left r (concat rows) 0 k low)) (each 0 (omega arith) k low)
      | inr high ↦ subst (λ (p : ℕ). p < 2 ^ bit_count (bits_of f)) (sym (get_or-append_right r (concat rows) k 0 high)) (more (k - length r) (omega (arith, lt, length-append r (concat rows))))
    ]

-- a place of a tile is a place of the rectangle
place_in : (all : List (List ℕ)) (t : Tile) (i j : ℕ) → i < 16 → j < 16 → 16 * t.row + j < length all → pixel_in (tile_rows all t) i j ≡ pixel_in all (16 * t.column + i) (16 * t.row + j)
place_in all t i j left top inside =
    ap (λ (row : List ℕ). get_or row i 0)
    (get_or-map (piece t.column) (take 16 (drop (16 * t.row) all)) j [] [] (omega (arith, top, inside, length-take 16 (drop (16 * t.row) all), length-drop (16 * t.row) all))
    ∙ ap (piece t.column) (get_or-take 16 (drop (16 * t.row) all) j [] top ∙ get_or-drop (16 * t.row) all j []))
    ∙ get_or-take 16 (drop (16 * t.column) (get_or all (16 * t.row + j) [])) i 0 left ∙ get_or-drop (16 * t.column) (get_or all (16 * t.row + j) []) i 0

module _ (finds : FindsTheBackground) (lists : ListsTheSubrectangles) (f : PixelFormat) (w h : ℕ) (colours : List ℕ) (whole : length colours ≡ w * h) where
  abbrev all : List (List ℕ)
  all = rows_of w h (map (pixel f) colours)

  one_back : (t : Tile) (carried : Carried) (more : List ℕ) → 16 * t.column < w → 16 * t.row < h
      → TileBack f (min 16 (w - 16 * t.column)) (min 16 (h - 16 * t.row)) carried (tile_rows all t) more
  one_back t carried more left top =
      subst (λ (rows : List (List ℕ)). TileBack f across down carried rows more) (tile_again (pixel f) w h colours t.column t.row across down (concat (tile_rows all t)) whole left refl refl refl)
      (tile_back finds lists f across down (concat (tile_rows all t)) carried more (omega (arith, some, size)) size (omega arith) (omega arith) (below_concat f (tile_rows all t) each))
    where
      across : ℕ
      across = min 16 (w - 16 * t.column)

      down : ℕ
      down = min 16 (h - 16 * t.row)

      size : length (concat (tile_rows all t)) ≡ across * down
      size = tile_size (pixel f) w h colours t.column t.row across down whole left refl refl

      some : 0 < across * down
      some =
          let lt : across * 0 < across * down = mul-lt-mul_of_pos_left {m = 0} {n = down} {k = across} (omega arith) (omega arith) in
          omega (arith, lt)

      each : (j : ℕ) → j < length (tile_rows all t) → Below f (get_or (tile_rows all t) j [])
      each j lt =
          subst (Below f) (sym (tile_row (pixel f) w h colours t.column t.row j left (omega (arith, lt, tile_height w h (map (pixel f) colours) t.column t.row))))
          (below_map f (take across (drop ((16 * t.row + j) * w + 16 * t.column) colours)))

  -- a tile that has places
  abbrev IsWithin : Tile → Type 0
  IsWithin t = (16 * t.column < w) × (16 * t.row < h)

  abbrev tile_of : ℕ → ℕ → Tile
  tile_of x y = record { column = x / 16; row = y / 16 }

  -- Tiles, with whatever follows them, are read one after the other, and each place of theirs shows its pixel.
  record TilesBack (ts : List Tile) (carried : Carried) (patch : Patch) (more : List ℕ) : Type 0 where
    final : Patch
    read : tiles_at f w h ts carried patch (tiles f all carried ts ++ more) ≡ Some (final, more)
    shown : (x y : ℕ) → x < w → y < h → (patch x y ≡ pixel_in all x y) ⊎ Contains ts (tile_of x y) → final x y ≡ pixel_in all x y

  -- a place of a tile shows its pixel, and any other place what it showed
  with_shown : (t : Tile) (ts : List Tile) (inner patch : Patch) (x y : ℕ) → x < w → y < h
      → ((i j : ℕ) → i < min 16 (w - 16 * t.column) → j < min 16 (h - 16 * t.row) → inner i j ≡ pixel_in (tile_rows all t) i j)
      → (patch x y ≡ pixel_in all x y) ⊎ Contains (t ∷ ts) (tile_of x y) → (with_tile t inner patch x y ≡ pixel_in all x y) ⊎ Contains ts (tile_of x y)
  with_shown t ts inner patch x y left top each h' = go (eqb (x / 16) t.column && eqb (y / 16) t.row) refl h'
    where
      go : (b : Bool) → (eqb (x / 16) t.column && eqb (y / 16) t.row) ≡ b → (patch x y ≡ pixel_in all x y) ⊎ Contains (t ∷ ts) (tile_of x y)
          → (cond b (inner (x % 16) (y % 16)) (patch x y) ≡ pixel_in all x y) ⊎ Contains ts (tile_of x y)
      go true e q =
          let parts = and_true _ _ e in
          let column : x / 16 ≡ t.column = eqb-true _ _ parts.0 in
          let row : y / 16 ≡ t.row = eqb-true _ _ parts.1 in
          inl (each (x % 16) (y % 16) (omega (arith, column, left)) (omega (arith, row, top))
          ∙ place_in all t (x % 16) (y % 16) (omega arith) (omega arith) (omega (arith, row, top, rows_count w h (map (pixel f) colours)))
          ∙ ap (λ (n : ℕ). pixel_in all n (16 * t.row + y % 16)) (let same : 16 * t.column + x % 16 ≡ x = omega (arith, column) in same)
          ∙ ap (pixel_in all x) (let same : 16 * t.row + y % 16 ≡ y = omega (arith, row) in same))
      go false e (inl q) = inl q
      go false e (inr c) = elim (cases_of t ts (tile_of x y) c) [
        | inl same ↦ absurd (not_here (ap (λ (u : Tile). u.column) same) (ap (λ (u : Tile). u.row) same) e)
        | inr c ↦ inr c
      ]
        where
          not_here : t.column ≡ x / 16 → t.row ≡ y / 16 → (eqb (x / 16) t.column && eqb (y / 16) t.row) ≡ false → ⊥
          not_here p q e = let wrong : true ≡ false = rw (eq-eqb (x / 16) t.column (sym p), eq-eqb (y / 16) t.row (sym q)) at e in cc

  tiles_back : (ts : List Tile) (carried : Carried) (patch : Patch) (more : List ℕ) → ((t : Tile) → Contains ts t → IsWithin t) → TilesBack ts carried patch more
  tiles_back [] carried patch more each = record {
    final = patch;
    read = refl;
    shown = λ x y left top h'. elim h' [ inl e ↦ e | inr c ↦ absurd (not_in_none (tile_of x y) c) ];
  }
  tiles_back (t ∷ ts) carried patch more each =
      let c = tile f carried (tile_rows all t) in
      let within = each t (head_of t ts) in
      let k = one_back t carried (tiles f all c.next ts ++ more) within.0 within.1 in
      let later = tiles_back ts c.next (with_tile t k.patch patch) more (λ u d. each u (tail_of t ts u d)) in
      record {
        final = later.final;
        read = ap (λ (bytes : List ℕ). tiles_at f w h (t ∷ ts) carried patch (c.bits ∷ bytes)) (append_assoc c.bytes (tiles f all c.next ts) more)
            ∙ ap (λ (o : Option (TileRead × List ℕ)). o >>= λ read. tiles_at f w h ts read.0.next (with_tile t read.0.patch patch) read.1) k.read ∙ later.read;
        shown = λ x y left top h'. later.shown x y left top (with_shown t ts k.patch patch x y left top k.shown h');
      }

-- ---- every place is in a tile, and every tile has places

map_cases : {A X : Type 0} (g : A → X) (ks : List A) (x : X) → Contains (map g ks) x → (a : A) × Contains ks a × (g a ≡ x)
map_cases g [] x c = absurd (not_in_none x c)
map_cases g (a ∷ ks) x c =
    let more = map_cases g ks x in
    elim (cases_of (g a) (map g ks) x c) [
      | inl e ↦ (a, head_of a ks, e)
      | inr d ↦ let r = more d in (r.0, tail_of a ks r.0 r.1, r.2)
    ]

map_has : {A X : Type 0} (g : A → X) (ks : List A) (a : A) → Contains ks a → Contains (map g ks) (g a)
map_has g [] a c = absurd (not_in_none a c)
map_has {A} {X} g (b ∷ ks) a c =
    let more = map_has g ks a in
    elim (cases_of b ks a c) [
      | inl e ↦ subst (λ (t : A). Contains (map g (b ∷ ks)) (g t)) e (head_of (g b) (map g ks))
      | inr d ↦ tail_of (g b) (map g ks) (g a) (more d)
    ]

flat_has : {A X : Type 0} (g : A → List X) (ks : List A) (a : A) (x : X) → Contains ks a → Contains (g a) x → Contains (flat_map g ks) x
flat_has g [] a x c d = absurd (not_in_none a c)
flat_has {A} {X} g (b ∷ ks) a x c d =
    let more = flat_has g ks a x in
    elim (cases_of b ks a c) [
      | inl e ↦ Contains-append_left (g b) (flat_map g ks) x (subst (λ (t : A). Contains (g t) x) (sym e) d)
      | inr q ↦ Contains-append_right (g b) (flat_map g ks) x (more q d)
    ]

range_has : (a n k : ℕ) → a ≤ k → k < a + n → Contains (range_with_len a n) k
range_has a zero k h g = absurd (omega arith)
range_has a (suc n) k h g =
    let more = range_has (a + 1) n k in
    elim (cases_lt a k) [
      | inl lt ↦ tail_of a (range_with_len (a + 1) n) k (more (omega arith) (omega arith))
      | inr le ↦ subst (λ (t : ℕ). Contains (a ∷ range_with_len (a + 1) n) t) (let e : a ≡ k = omega arith in e) (head_of a (range_with_len (a + 1) n))
    ]

each_within : (w h : ℕ) (t : Tile) → Contains (tiles_of w h) t → (16 * t.column < w) × (16 * t.row < h)
each_within w h t c =
    let from = flat_cases (tiles_in w) (range_with_len 0 (div_ceil h 16)) t c in
    let row = range_cases 0 (div_ceil h 16) from.from from.one in
    let r = map_cases (λ (i : ℕ). record { column = i; row = from.from }) (range_with_len 0 (div_ceil w 16)) t from.gives in
    let column = range_cases 0 (div_ceil w 16) r.0 r.1 in
    (omega (arith, column.1, ap (λ (u : Tile). u.column) r.2), omega (arith, row.1, ap (λ (u : Tile). u.row) r.2))

all_there : (w h x y : ℕ) → x < w → y < h → Contains (tiles_of w h) (record { column = x / 16; row = y / 16 })
all_there w h x y left top =
    flat_has (tiles_in w) (range_with_len 0 (div_ceil h 16)) (y / 16) (record { column = x / 16; row = y / 16 }) (range_has 0 (div_ceil h 16) (y / 16) (omega arith) (omega (arith, top)))
    (map_has (λ (i : ℕ). record { column = i; row = y / 16 }) (range_with_len 0 (div_ceil w 16)) (x / 16) (range_has 0 (div_ceil w 16) (x / 16) (omega arith) (omega (arith, left))))

pub reads_back : FindsTheBackground → ListsTheSubrectangles → hextile_reads_back
reads_back finds lists f a colours more fits some whole = record {
  body = hextile_of f a.w a.h ps ++ more;
  patch = back.final;
  head = ap head_at (append_assoc (head a (pos 5)) (hextile_of f a.w a.h ps) more) ∙ head_back a (pos 5) (hextile_of f a.w a.h ps ++ more) fits small;
  pixels = back.read;
  shown = λ before x y. same_patched f a back.final (pixels_of f a.w colours) before
      (λ i j left top. back.shown i j left top (inr (all_there a.w a.h i j left top)) ∙ place_is a.w a.h ps i j left top
      ∙ get_or-map (pixel f) colours (j * a.w + i) 0 0 (omega (arith, mul-add-lt j a.w i a.h top left, whole))) x y;
}
  where
    ps : List ℕ
    ps = map (pixel f) colours

    back : TilesBack finds lists f a.w a.h colours whole (tiles_of a.w a.h) nothing (λ x y. 0) more
    back = tiles_back finds lists f a.w a.h colours whole (tiles_of a.w a.h) nothing (λ x y. 0) more (each_within a.w a.h)

    small : FitsSigned w32 (pos 5)
    small = record { sfits = omega arith }
