-- The groups of bytes that are read at once, and the numbers in them.
use Rattle.std.specs.Prelude.{ℕ, ℤ, ◌+◌, ◌-◌, ◌/◌, ◌%◌, ◌==◌, Bool, if◌then◌else◌, List, [], ◌∷◌, length, slice_index, Some}
use Rattle.std.specs.Int.{w32, from_le_bytes, cast_signed}
use Rattle.pixel_translate.specs.declared.Area.{Area}
use Rattle.pixel_translate.specs.Pixel.{be16_at, be32_at}
use Rattle.encode_hextile.specs.declared.Carried.{Carried}
use Rattle.encode_hextile.specs.Reading.{has_bit}
use Rattle.server_reader.specs.declared.stage.Stage.{Stage}
use Rattle.server_reader.specs.declared.stage.Stage.TheVariants as stage

-- 7.4: the pixel in the four bytes from a place on, the lowest first
abbrev pub pixel_in : (bytes : List ℕ) → (place : ℕ) → ℕ
pixel_in bytes i = from_le_bytes w32 (slice_index bytes i ∷ slice_index bytes (i + 1) ∷ slice_index bytes (i + 2) ∷ slice_index bytes (i + 3) ∷ [])

-- 7.6.1: a rectangle's place and size, and its encoding
abbrev pub area_in : (bytes : List ℕ) → (place : ℕ) → Area
area_in bytes i = record { x = be16_at bytes i; y = be16_at bytes (i + 2); w = be16_at bytes (i + 4); h = be16_at bytes (i + 6) }

abbrev pub encoding_in : List ℕ → ℤ
encoding_in head = cast_signed w32 (be32_at head 8)

-- 7.6.1, 7.6.2, 7.6.4: the head of a message, by its type
abbrev pub message_length : (kind : ℕ) → ℕ
message_length kind = if kind == 0 then 4 else (if kind == 1 then 6 else (if kind == 3 then 8 else 1))

abbrev pub part_length : Bool → ℕ → ℕ
part_length there length = if there then length else 0

-- 7.7.4: a tile up to its pixels or its subrectangles, by its bits
abbrev pub tile_length : (bits : ℕ) → ℕ
tile_length bits = if has_bit bits 0 then 1 else 1 + part_length (has_bit bits 1) 4 + part_length (has_bit bits 2) 4 + part_length (has_bit bits 3) 1

-- 7.7.4: a tile's background and foreground: its own, or else what is carried to it
abbrev pub own_pixels : Carried → (head : List ℕ) → Carried
own_pixels carried head = record {
  background = if has_bit (slice_index head 0) 1 then Some (pixel_in head 1) else carried.background;
  foreground = if has_bit (slice_index head 0) 2 then Some (pixel_in head (1 + part_length (has_bit (slice_index head 0) 1) 4)) else carried.foreground;
}

-- 7.7.4: how many subrectangles a tile has: its head's last byte, where the bit for it is set
abbrev pub part_count : (head : List ℕ) → ℕ
part_count head = if has_bit (slice_index head 0) 3 then slice_index head (length head - 1) else 0

-- 7.7.4: a subrectangle by its last two bytes: four bits for each number, and the size is one more
abbrev pub part_in : (place size : ℕ) → Area
part_in place size = record { x = place / 16; y = place % 16; w = size / 16 + 1; h = size % 16 + 1 }

-- how many bytes are read at once, by the first of them
abbrev pub needed : Stage → (first : ℕ) → ℕ
needed stage.Message first = message_length first
needed stage.UpdateEnd first = 0
needed (stage.Rectangle behind) first = 12
needed (stage.Pixels rows) first = 4
needed (stage.Source rectangle) first = 4
needed (stage.Rre rectangle) first = 8
needed (stage.RreParts parts) first = 12
needed (stage.Tile tile) first = tile_length first
needed (stage.TileParts parts) first = if parts.coloured then 6 else 2
needed (stage.MapEntries entries) first = 6
needed (stage.Faulted fault) first = 1
