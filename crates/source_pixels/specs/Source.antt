-- A program's own pixels.
use Rattle.std.specs.Prelude.{ℕ, ◌+◌, ◌-◌, ◌*◌, ◌==◌, ◌&&◌, nat_le, nat_lt, if◌then◌else◌, List, length, map, take, drop, Option, Some, None}
use Rattle.std.specs.List.{range_with_len}
use Rattle.source_pixels.specs.declared.formats.TrueColour.{TrueColour}
use Rattle.source_pixels.specs.declared.formats.SourceFormat.{SourceFormat}
use Rattle.source_pixels.specs.declared.formats.SourceFormat.TheVariants as kind
use Rattle.source_pixels.specs.declared.errors.SourceError.{SourceError}
use Rattle.source_pixels.specs.declared.errors.SourceError.TheVariants.{BadComponent, BadTable, StrideTooShort, TooFewBytes}
use Rattle.source_pixels.specs.Formats.{pixel_size, colour_of, are_fitting}

-- pixels row by row from the top, each row a stride of bytes behind the one above
pub record Source : Type 0 where
  pub width : ℕ
  pub height : ℕ
  pub stride : ℕ
  pub bytes : List ℕ
  pub format : SourceFormat

-- the bytes of the pixel in column x of row y
abbrev pub pixel_at : Source → ℕ → ℕ → List ℕ
pixel_at s x y = take (pixel_size s.format) (drop (y * s.stride + x * pixel_size s.format) s.bytes)

-- its colour 0x00RRGGBB
abbrev pub colour_at : Source → (x y : ℕ) → ℕ
colour_at s x y = colour_of s.format (pixel_at s x y)

-- the colours of so many places of row y, from column x on
abbrev pub colours_at : Source → (x y count : ℕ) → List ℕ
colours_at s x y count = map (λ k. colour_at s (x + k) y) (range_with_len 0 count)

-- the colours of the first pixels of some bytes, where a function gives a pixel's colour
abbrev pub colours_by : (List ℕ → ℕ) → ℕ → List ℕ → ℕ → List ℕ
colours_by colour size bytes count = map (λ k. colour (take size (drop (k * size) bytes))) (range_with_len 0 count)

abbrev pub row_colours : SourceFormat → List ℕ → ℕ → List ℕ
row_colours format bytes count = colours_by (colour_of format) (pixel_size format) bytes count

abbrev pub component_colours : TrueColour → List ℕ → ℕ → List ℕ
component_colours f bytes count = row_colours (kind.TrueColour f) bytes count

-- What is refused.

abbrev pub format_refusal : SourceFormat → Option SourceError
format_refusal (kind.TrueColour f) = if are_fitting f then None else Some BadComponent
format_refusal (kind.Table table) = if nat_le 1 (length table.now) && nat_le (length table.now) 256 then None else Some BadTable

-- the last row needs no bytes behind its pixels
abbrev pub bytes_needed : (row stride height : ℕ) → ℕ
bytes_needed row stride height = if height == 0 then 0 else (height - 1) * stride + row

abbrev pub layout_refusal : ℕ → Source → Option SourceError
layout_refusal row s =
    if nat_lt s.stride row then Some StrideTooShort
    else (if nat_lt (length s.bytes) (bytes_needed row s.stride s.height) then Some TooFewBytes
    else None)

-- of the format, and then of the layout
abbrev pub first_refusal : Option SourceError → Option SourceError → Option SourceError
first_refusal None later = later
first_refusal (Some e) later = Some e

abbrev pub source_refusal : Source → Option SourceError
source_refusal s = first_refusal (format_refusal s.format) (layout_refusal (s.width * pixel_size s.format) s)
