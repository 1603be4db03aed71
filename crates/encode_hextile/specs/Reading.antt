-- How a viewer reads Hextile, by RFC 6143 section 7.7.4 alone: any bits, any subrectangles.
use Rattle.std.specs.Prelude.{ℕ, zero, suc, ◌+◌, ◌-◌, ◌*◌, ◌/◌, ◌%◌, min, Bool, ◌&&◌, ◌==◌, if◌then◌else◌, List, [], ◌∷◌, Option, None, Some}
use Rattle.std.specs.Int.{bit_at, w8}
use Rattle.pixel_translate.specs.declared.PixelFormat.{PixelFormat}
use Rattle.encode_raw.specs.Reading.{◌>>=◌, number_at, pixel_at, raw_at, Patch}
use Rattle.subrectangles.specs.declared.Subrectangle.{Subrectangle}
use Rattle.subrectangles.specs.Reading.{painted}
use Rattle.encode_hextile.specs.declared.Carried.{Carried}
use Rattle.encode_hextile.specs.Tiles.{Tile, tiles_of}
use Rattle.encode_hextile.specs.Hextile.{nothing}

-- 7.7.4: the bits that a tile begins with
abbrev pub has_bit : ℕ → ℕ → Bool
has_bit bits i = bit_at bits i == 1

-- 7.7.4: the pixel where it is specified, else the one that is carried
abbrev pub specified_at : PixelFormat → Bool → Option ℕ → List ℕ → Option (Option ℕ × List ℕ)
specified_at f specified before bytes =
    let read = (do
      p ← pixel_at f bytes
      Some (Some p.0, p.1)) in
    if specified then read else Some (before, bytes)

-- 7.7.4: a subrectangle: its pixel where each has one, else the foreground; its place; its size less one
abbrev pub subrectangle_at : PixelFormat → Bool → Option ℕ → List ℕ → Option (Subrectangle × List ℕ)
subrectangle_at f coloured foreground bytes = do
  own ← specified_at f coloured foreground bytes
  pixel ← own.0
  place ← number_at w8 own.1
  size ← number_at w8 place.1
  Some (record { x = place.0 / 16; y = place.0 % 16; w = size.0 / 16 + 1; h = size.0 % 16 + 1; pixel = pixel }, size.1)

unfoldable pub subrectangles_at : PixelFormat → Bool → Option ℕ → ℕ → Patch → List ℕ → Option (Patch × List ℕ)
subrectangles_at f coloured foreground zero patch bytes = Some (patch, bytes)
subrectangles_at f coloured foreground (suc n) patch bytes = do
  s ← subrectangle_at f coloured foreground bytes
  subrectangles_at f coloured foreground n (painted s.0 patch) s.1

-- what a tile shows, and what it leaves to the next
pub record TileRead : Type 0 where
  pub patch : Patch
  pub next : Carried

-- 7.7.4: a tile that is raw leaves nothing to the next
abbrev pub raw_tile_at : PixelFormat → ℕ → ℕ → List ℕ → Option (TileRead × List ℕ)
raw_tile_at f w h bytes = do
  patch ← raw_at f w h bytes
  Some (record { patch = patch.0; next = nothing }, patch.1)

-- 7.7.4: any other tile: the background, the foreground, the subrectangles. Where these have pixels of their own there is no foreground for the next.
abbrev pub coded_tile_at : PixelFormat → Carried → ℕ → List ℕ → Option (TileRead × List ℕ)
coded_tile_at f carried bits bytes = do
  background ← specified_at f (has_bit bits 1) carried.background bytes
  b ← background.0
  foreground ← specified_at f (has_bit bits 2) carried.foreground background.1
  count ← if has_bit bits 3 then number_at w8 foreground.1 else Some (0, foreground.1)
  patch ← subrectangles_at f (has_bit bits 4) foreground.0 count.0 (λ x y. b) count.1
  Some (record { patch = patch.0; next = record { background = Some b; foreground = if has_bit bits 4 then None else foreground.0 } }, patch.1)

-- 7.7.4: a tile of w by h
abbrev pub tile_at : PixelFormat → ℕ → ℕ → Carried → List ℕ → Option (TileRead × List ℕ)
tile_at f w h carried bytes = do
  bits ← number_at w8 bytes
  if has_bit bits.0 0 then raw_tile_at f w h bits.1 else coded_tile_at f carried bits.0 bits.1

-- the pixels of a tile, in their rectangle
abbrev pub with_tile : Tile → Patch → Patch → Patch
with_tile t inner patch x y = if (x / 16 == t.column) && (y / 16 == t.row) then inner (x % 16) (y % 16) else patch x y

-- 7.7.4: the tiles one after the other. The last of a row or a column may be smaller.
abbrev pub tiles_at : PixelFormat → ℕ → ℕ → List Tile → Carried → Patch → List ℕ → Option (Patch × List ℕ)
tiles_at f w h [] carried patch bytes = Some (patch, bytes)
tiles_at f w h (t ∷ ts) carried patch bytes = do
  read ← tile_at f (min 16 (w - 16 * t.column)) (min 16 (h - 16 * t.row)) carried bytes
  tiles_at f w h ts read.0.next (with_tile t read.0.patch patch) read.1

abbrev pub hextile_at : PixelFormat → ℕ → ℕ → List ℕ → Option (Patch × List ℕ)
hextile_at f w h bytes = tiles_at f w h (tiles_of w h) nothing (λ x y. 0) bytes
