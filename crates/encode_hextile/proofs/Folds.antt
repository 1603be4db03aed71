-- Tiles one after the other.
use Rattle.std.proofs.Common.{◌≡◌, ℕ, zero, suc, ◌+◌, ◌++◌, List, [], ◌∷◌, map, refl, sym, ap, ◌∙◌, arith, append_assoc, append-nil}
use Rattle.std.specs.List.{flat_map, range_with_len}
use Rattle.std.proofs.lemmas.List.{map-append}
use Rattle.pixel_translate.specs.declared.PixelFormat.{PixelFormat}
use Rattle.subrectangles.specs.Scans.{row_more}
use Rattle.encode_hextile.specs.declared.Carried.{Carried}
use Rattle.encode_hextile.specs.Tiles.{Tile, tiles_in, tile_rows}
use Rattle.encode_hextile.specs.Hextile.{Coded, tile, tiles, carried_after}

pub tiles_append : (f : PixelFormat) (rows : List (List ℕ)) (carried : Carried) (ts us : List Tile) → tiles f rows carried (ts ++ us) ≡ tiles f rows carried ts ++ tiles f rows (carried_after f rows carried ts) us
tiles_append f rows carried [] us = refl
tiles_append f rows carried (t ∷ ts) us =
    let c = tile f carried (tile_rows rows t) in
    ap (λ (more : List ℕ). c.bits ∷ c.bytes ++ more) (tiles_append f rows c.next ts us)
    ∙ ap (λ (more : List ℕ). c.bits ∷ more) (sym (append_assoc c.bytes (tiles f rows c.next ts) (tiles f rows (carried_after f rows c.next ts) us)))

pub carried_append : (f : PixelFormat) (rows : List (List ℕ)) (carried : Carried) (ts us : List Tile) → carried_after f rows carried (ts ++ us) ≡ carried_after f rows (carried_after f rows carried ts) us
carried_append f rows carried [] us = refl
carried_append f rows carried (t ∷ ts) us = carried_append f rows (tile f carried (tile_rows rows t)).next ts us

-- ---- a row of tiles

abbrev pub first_tiles : ℕ → ℕ → List Tile
first_tiles row n = map (λ (i : ℕ). record { column = i; row = row }) (range_with_len 0 n)

range_more : (a n : ℕ) → range_with_len a (n + 1) ≡ range_with_len a n ++ (a + n) ∷ []
range_more a n = rw (let e : n + 1 ≡ suc n = omega arith in e) (range_suc a n)
  where
    range_suc : (a n : ℕ) → range_with_len a (suc n) ≡ range_with_len a n ++ (a + n) ∷ []
    range_suc a zero = ap (λ (k : ℕ). k ∷ []) (let e : a ≡ a + 0 = omega arith in e)
    range_suc a (suc n) =
        ap (λ (t : List ℕ). a ∷ t) (range_suc (a + 1) n ∙ ap (λ (k : ℕ). range_with_len (a + 1) n ++ k ∷ []) (let e : a + 1 + n ≡ a + suc n = omega arith in e))

pub first_more : (row n : ℕ) → first_tiles row (n + 1) ≡ first_tiles row n ++ record { column = n; row = row } ∷ []
first_more row n =
    ap (map (λ (i : ℕ). tile_at i)) (range_more 0 n ∙ ap (λ (k : ℕ). range_with_len 0 n ++ k ∷ []) (let e : 0 + n ≡ n = omega arith in e))
    ∙ map-append (λ (i : ℕ). tile_at i) (range_with_len 0 n) (n ∷ [])
  where
    tile_at : ℕ → Tile
    tile_at i = record { column = i; row = row }

pub one_tile_more : (f : PixelFormat) (rows : List (List ℕ)) (before carried : Carried) (old now new : List ℕ) (row n : ℕ) (c : Coded)
    → carried ≡ carried_after f rows before (first_tiles row n) → now ≡ old ++ tiles f rows before (first_tiles row n)
    → c ≡ tile f carried (tile_rows rows (record { column = n; row = row })) → new ≡ now ++ c.bits ∷ c.bytes
    → new ≡ old ++ tiles f rows before (first_tiles row (n + 1))
one_tile_more f rows before carried old now new row n c k e g h =
    h ∙ ap (λ (t : List ℕ). t ++ c.bits ∷ c.bytes) e ∙ append_assoc old (tiles f rows before (first_tiles row n)) (c.bits ∷ c.bytes)
    ∙ ap (λ (t : List ℕ). old ++ t)
    (ap (λ (t : Coded). tiles f rows before (first_tiles row n) ++ t.bits ∷ t.bytes) (g ∙ ap (λ (t : Carried). tile f t (tile_rows rows at)) k)
    ∙ ap (λ (t : List ℕ). tiles f rows before (first_tiles row n) ++ last.bits ∷ t) (sym (append-nil last.bytes))
    ∙ sym (ap (tiles f rows before) (first_more row n) ∙ tiles_append f rows before (first_tiles row n) (at ∷ [])))
  where
    at : Tile
    at = record { column = n; row = row }

    last : Coded
    last = tile f (carried_after f rows before (first_tiles row n)) (tile_rows rows at)

pub carried_more : (f : PixelFormat) (rows : List (List ℕ)) (before carried : Carried) (row n : ℕ) (c : Coded)
    → carried ≡ carried_after f rows before (first_tiles row n) → c ≡ tile f carried (tile_rows rows (record { column = n; row = row }))
    → c.next ≡ carried_after f rows before (first_tiles row (n + 1))
carried_more f rows before carried row n c k g =
    ap (λ (t : Coded). t.next) (g ∙ ap (λ (t : Carried). tile f t (tile_rows rows at)) k)
    ∙ sym (ap (carried_after f rows before) (first_more row n) ∙ carried_append f rows before (first_tiles row n) (at ∷ []))
  where
    at : Tile
    at = record { column = n; row = row }

-- ---- all rows

abbrev pub first_rows : ℕ → ℕ → List Tile
first_rows w n = flat_map (tiles_in w) (range_with_len 0 n)

pub one_row_more : (f : PixelFormat) (rows : List (List ℕ)) (before carried : Carried) (old now new : List ℕ) (w n : ℕ)
    → carried ≡ carried_after f rows before (first_rows w n) → now ≡ old ++ tiles f rows before (first_rows w n)
    → new ≡ now ++ tiles f rows carried (tiles_in w n) → new ≡ old ++ tiles f rows before (first_rows w (n + 1))
one_row_more f rows before carried old now new w n k e h =
    h ∙ ap (λ (t : List ℕ). t ++ tiles f rows carried (tiles_in w n)) e ∙ append_assoc old (tiles f rows before (first_rows w n)) (tiles f rows carried (tiles_in w n))
    ∙ ap (λ (t : List ℕ). old ++ t)
    (ap (λ (t : Carried). tiles f rows before (first_rows w n) ++ tiles f rows t (tiles_in w n)) k
    ∙ sym (ap (tiles f rows before) (row_more (tiles_in w) n) ∙ tiles_append f rows before (first_rows w n) (tiles_in w n)))

pub carried_rows : (f : PixelFormat) (rows : List (List ℕ)) (before carried next : Carried) (w n : ℕ)
    → carried ≡ carried_after f rows before (first_rows w n) → next ≡ carried_after f rows carried (tiles_in w n) → next ≡ carried_after f rows before (first_rows w (n + 1))
carried_rows f rows before carried next w n k h =
    h ∙ ap (λ (t : Carried). carried_after f rows t (tiles_in w n)) k
    ∙ sym (ap (carried_after f rows before) (row_more (tiles_in w) n) ∙ carried_append f rows before (first_rows w n) (tiles_in w n))
