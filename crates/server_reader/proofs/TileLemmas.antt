-- The tiles behind a tile.
use Rattle.std.proofs.Common.{◌≡◌, ℕ, suc, ◌+◌, ◌-◌, ◌*◌, ◌<◌, ◌≤◌, List, [], ◌∷◌, ◌++◌, map, Option, Some, sym, ap, ◌∙◌, arith}
use Rattle.std.specs.Int.{div_ceil}
use Rattle.std.specs.List.{range_with_len, flat_map}
use Rattle.encode_hextile.specs.declared.Carried.{Carried}
use Rattle.encode_hextile.specs.Tiles.{Tile, tiles_in}
use Rattle.viewer_picture.specs.Messages.{Display, rectangles_at}
use Rattle.server_reader.specs.declared.stage.TileAt.{TileAt}
use Rattle.server_reader.specs.declared.stage.Stage.{Stage}
use Rattle.server_reader.specs.Stages.{tiles_right, tiles_below, tiles_onto, rectangles_behind, tiles_at_behind, rest_of}

abbrev tile : (column row : ℕ) → Tile
tile column row = record { column = column; row = row }

-- a place of sixteen that begins before the end is one of them, and no other is
before_end : (length index : ℕ) → 16 * index < length → div_ceil length 16 - index ≡ suc (div_ceil length 16 - (index + 1))
before_end length index below = omega (arith, below)

at_end : (length index : ℕ) → length ≤ 16 * index → div_ceil length 16 - index ≡ 0
at_end length index above = omega (arith, above)

right_more : (w row column : ℕ) → 16 * column < w → tiles_right w row column ≡ tile column row ∷ tiles_right w row (column + 1)
right_more w row column below = ap (λ n. map (λ i. tile i row) (range_with_len column n)) (before_end w column below)

right_none : (w row column : ℕ) → w ≤ 16 * column → tiles_right w row column ≡ []
right_none w row column above = ap (λ n. map (λ i. tile i row) (range_with_len column n)) (at_end w column above)

pub below_more : (w h row : ℕ) → 16 * row < h → 0 < w → tiles_below w h row ≡ tile 0 row ∷ (tiles_right w row 1 ++ tiles_below w h (row + 1))
below_more w h row below wide =
    ap (λ n. flat_map (tiles_in w) (range_with_len row n)) (before_end h row below)
    ∙ ap (λ n. map (λ i. tile i row) (range_with_len 0 n) ++ tiles_below w h (row + 1)) (let e : div_ceil w 16 ≡ suc (div_ceil w 16 - 1) = omega (arith, wide) in e)

below_none : (w h row : ℕ) → h ≤ 16 * row → tiles_below w h row ≡ []
below_none w h row above = ap (λ n. flat_map (tiles_in w) (range_with_len row n)) (at_end h row above)

-- ---- what comes next behind a tile

abbrev with_tiles : TileAt → List Tile → Carried → Display → List ℕ → Option (Display × List ℕ)
with_tiles t ts carried d bytes = rectangles_behind t.rectangle.behind d (tiles_onto t.rectangle.area ts carried d.shown bytes)

-- the next of its row of tiles
pub next_column : (t : TileAt) (carried : Carried) (d : Display) (bytes : List ℕ) → 16 * (t.column + 1) < t.rectangle.area.w
    → with_tiles t (tile (t.column + 1) t.row ∷ (tiles_right t.rectangle.area.w t.row (t.column + 1 + 1) ++ tiles_below t.rectangle.area.w t.rectangle.area.h (t.row + 1))) carried d bytes
    ≡ tiles_at_behind t carried d (Some (d.shown, bytes))
next_column t carried d bytes wide =
    let w : ℕ = t.rectangle.area.w in
    let h : ℕ = t.rectangle.area.h in
    ap (λ (ts : List Tile). with_tiles t (ts ++ tiles_below w h (t.row + 1)) carried d bytes) (sym (right_more w t.row (t.column + 1) wide))

-- the first of the row of tiles below
pub next_row : (t : TileAt) (carried : Carried) (d : Display) (bytes : List ℕ) → t.rectangle.area.w ≤ 16 * (t.column + 1) → 16 * (t.row + 1) < t.rectangle.area.h
    → with_tiles t (tile 0 (t.row + 1) ∷ (tiles_right t.rectangle.area.w (t.row + 1) 1 ++ tiles_below t.rectangle.area.w t.rectangle.area.h (t.row + 1 + 1))) carried d bytes
    ≡ tiles_at_behind t carried d (Some (d.shown, bytes))
next_row t carried d bytes end high =
    let w : ℕ = t.rectangle.area.w in
    let h : ℕ = t.rectangle.area.h in
    let wide : 0 < w = omega (arith, t.wide) in
    ap (λ (ts : List Tile). with_tiles t ts carried d bytes) (sym (below_more w h (t.row + 1) high wide))
    ∙ ap (λ (ts : List Tile). with_tiles t (ts ++ tiles_below w h (t.row + 1)) carried d bytes) (sym (right_none w t.row (t.column + 1) end))

-- none
pub last_tile : (t : TileAt) (carried : Carried) (after : Stage) (d : Display) (bytes : List ℕ) → t.rectangle.area.w ≤ 16 * (t.column + 1) → t.rectangle.area.h ≤ 16 * (t.row + 1)
    → rest_of after d bytes ≡ rectangles_at t.rectangle.behind d bytes → rest_of after d bytes ≡ tiles_at_behind t carried d (Some (d.shown, bytes))
unfolding tiles_onto
last_tile t carried after d bytes end bottom rest =
    let w : ℕ = t.rectangle.area.w in
    let h : ℕ = t.rectangle.area.h in
    rest
    ∙ ap (λ (ts : List Tile). with_tiles t ts carried d bytes) (sym (below_none w h (t.row + 1) bottom))
    ∙ ap (λ (ts : List Tile). with_tiles t (ts ++ tiles_below w h (t.row + 1)) carried d bytes) (sym (right_none w t.row (t.column + 1) end))
