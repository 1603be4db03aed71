-- Hextile, as RFC 6143 section 7.7.4 has it.
use Rattle.std.specs.Prelude.{ℕ, ◌+◌, ◌-◌, ◌*◌, Bool, true, false, not, ◌==◌, nat_lt, if◌then◌else◌, pos, List, [], ◌∷◌, ◌++◌, length, map, filter, flat_map, Option, None, Some}
use Rattle.std.specs.List.{list_all, concat}
use Rattle.pixel_translate.specs.declared.Area.{Area}
use Rattle.pixel_translate.specs.declared.PixelFormat.{PixelFormat}
use Rattle.pixel_translate.specs.Pixel.{bytes_per_pixel, pixel, pixel_bytes}
use Rattle.encode_raw.specs.Raw.{head}
use Rattle.subrectangles.specs.declared.Subrectangle.{Subrectangle}
use Rattle.subrectangles.specs.Subrectangles.{rows_of, background_of, subrectangles}
use Rattle.encode_hextile.specs.declared.Carried.{Carried}
use Rattle.encode_hextile.specs.declared.TilePixels.{TilePixels}
use Rattle.encode_hextile.specs.declared.TilePixels.TheVariants.{Alone, OneOther, Several}
use Rattle.encode_hextile.specs.Tiles.{Tile, tiles_of, tile_rows}

-- 7.7.4: a rectangle's first tile has no pixel carried to it, nor has the one behind a raw tile
abbrev pub nothing : Carried
nothing = record { background = None; foreground = None }

abbrev pub is_carried : Option ℕ → ℕ → Bool
is_carried None p = false
is_carried (Some q) p = q == p

-- whether there is no pixel, one, or several
abbrev pub kind_of : List ℕ → TilePixels
kind_of [] = Alone
kind_of (p ∷ ps) = if list_all (λ q. q == p) ps then OneOther p else Several

-- 7.7.4: which pixels a tile has beside its background
abbrev pub others_of : ℕ → List ℕ → TilePixels
others_of b pixels = kind_of (filter (λ p. not (p == b)) pixels)

-- 7.7.4: a tile's bits, what follows them, and what it leaves to the next
pub record Coded : Type 0 where
  pub bits : ℕ
  pub bytes : List ℕ
  pub next : Carried

abbrev pub bit_unless : Bool → ℕ → ℕ
bit_unless b n = if b then 0 else n

abbrev pub bytes_unless : Bool → List ℕ → List ℕ
bytes_unless b bytes = if b then [] else bytes

-- 7.7.4: a subrectangle's place, and its size less one, four bits each
abbrev pub place_bytes : Subrectangle → List ℕ
place_bytes s = (s.x * 16 + s.y) ∷ ((s.w - 1) * 16 + (s.h - 1)) ∷ []

-- 7.7.4: a subrectangle, with its own pixel where they are coloured
abbrev pub subrectangle_bytes : PixelFormat → Bool → Subrectangle → List ℕ
subrectangle_bytes f coloured s = (if coloured then pixel_bytes f s.pixel else []) ++ place_bytes s

-- 7.7.4: how many subrectangles there are, and each of them
abbrev pub subrectangle_list : PixelFormat → Bool → List Subrectangle → List ℕ
subrectangle_list f coloured subs = length subs ∷ flat_map (subrectangle_bytes f coloured) subs

-- 7.7.4: the bits: 2 background, 4 foreground, 8 subrectangles, 16 coloured
abbrev pub bits_of : Carried → ℕ → TilePixels → ℕ
bits_of carried b Alone = bit_unless (is_carried carried.background b) 2
bits_of carried b (OneOther p) = bit_unless (is_carried carried.background b) 2 + bit_unless (is_carried carried.foreground p) 4 + 8
bits_of carried b Several = bit_unless (is_carried carried.background b) 2 + 8 + 16

-- 7.7.4: the background and the foreground, where they are said
abbrev pub said_bytes : PixelFormat → Carried → ℕ → TilePixels → List ℕ
said_bytes f carried b Alone = bytes_unless (is_carried carried.background b) (pixel_bytes f b)
said_bytes f carried b (OneOther p) = bytes_unless (is_carried carried.background b) (pixel_bytes f b) ++ bytes_unless (is_carried carried.foreground p) (pixel_bytes f p)
said_bytes f carried b Several = bytes_unless (is_carried carried.background b) (pixel_bytes f b)

-- 7.7.4: the subrectangles, where there are other pixels; coloured where these are several
abbrev pub list_bytes : PixelFormat → List Subrectangle → TilePixels → List ℕ
list_bytes f subs Alone = []
list_bytes f subs (OneOther p) = subrectangle_list f false subs
list_bytes f subs Several = subrectangle_list f true subs

-- 7.7.4: a tile of one pixel leaves the foreground as it was, and coloured subrectangles leave none
abbrev pub next_of : Carried → ℕ → TilePixels → Carried
next_of carried b Alone = record { background = Some b; foreground = carried.foreground }
next_of carried b (OneOther p) = record { background = Some b; foreground = Some p }
next_of carried b Several = record { background = Some b; foreground = None }

-- 7.7.4: a tile by its background, its subrectangles and its other pixels
abbrev pub coded : PixelFormat → Carried → ℕ → List Subrectangle → TilePixels → Coded
coded f carried b subs others = record {
  bits = bits_of carried b others;
  bytes = said_bytes f carried b others ++ list_bytes f subs others;
  next = next_of carried b others;
}

-- 7.7.4: the tile's pixels themselves, behind the bit 1
abbrev pub raw_tile : PixelFormat → List ℕ → Coded
raw_tile f pixels = record { bits = 1; bytes = flat_map (pixel_bytes f) pixels; next = nothing }

-- 7.7.4: a tile of these rows: coded where that is shorter, else raw
abbrev pub tile : PixelFormat → Carried → List (List ℕ) → Coded
tile f carried rows =
    let pixels = concat rows in
    let b = background_of pixels in
    let short = coded f carried b (subrectangles b rows) (others_of b pixels) in
    if nat_lt (length short.bytes) (length pixels * bytes_per_pixel f) then short else raw_tile f pixels

-- 7.7.4: the tiles one after the other, and what the last of them leaves
abbrev pub tiles : PixelFormat → List (List ℕ) → Carried → List Tile → List ℕ
tiles f rows carried [] = []
tiles f rows carried (t ∷ ts) =
    let c = tile f carried (tile_rows rows t) in
    c.bits ∷ c.bytes ++ tiles f rows c.next ts

abbrev pub carried_after : PixelFormat → List (List ℕ) → Carried → List Tile → Carried
carried_after f rows carried [] = carried
carried_after f rows carried (t ∷ ts) = carried_after f rows (tile f carried (tile_rows rows t)).next ts

-- the data of a rectangle whose pixels stand row by row, w in a row
abbrev pub hextile_of : PixelFormat → ℕ → ℕ → List ℕ → List ℕ
hextile_of f w h pixels = tiles f (rows_of w h pixels) nothing (tiles_of w h)

-- 7.7.4: a rectangle in Hextile
abbrev pub hextile : PixelFormat → Area → List ℕ → List ℕ
hextile f a colours = head a (pos 5) ++ hextile_of f a.w a.h (map (pixel f) colours)
