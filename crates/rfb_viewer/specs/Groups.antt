-- The numbers in a group of bytes.
use Rattle.std.specs.Prelude.{ℕ, ◌+◌, ◌*◌, if◌then◌else◌, List, slice_index}
use Rattle.pixel_translate.specs.declared.Area.{Area}
use Rattle.pixel_translate.specs.declared.BitsPerPixel.{BitsPerPixel}
use Rattle.pixel_translate.specs.declared.BitsPerPixel.TheVariants.{Eight, Sixteen, ThirtyTwo}
use Rattle.pixel_translate.specs.declared.PixelFormat.{PixelFormat}
use Rattle.pixel_translate.specs.Pixel.{bits_of}

-- 3: the highest byte first
abbrev pub two_at : (bytes : List ℕ) → (place : ℕ) → ℕ
two_at bytes k = slice_index bytes k * 256 + slice_index bytes (k + 1)

abbrev pub four_at : (bytes : List ℕ) → (place : ℕ) → ℕ
four_at bytes k = slice_index bytes k * 16777216 + slice_index bytes (k + 1) * 65536 + slice_index bytes (k + 2) * 256 + slice_index bytes (k + 3)

-- 7.6.1: a place and a size
abbrev pub area_of_bytes : List ℕ → ℕ → Area
area_of_bytes bytes k = record { x = two_at bytes k; y = two_at bytes (k + 2); w = two_at bytes (k + 4); h = two_at bytes (k + 6) }

-- 7.4: a pixel of four bytes or fewer, in the format's order
abbrev pub pixel_of : BitsPerPixel → (first second third fourth : ℕ) → ℕ
pixel_of Eight a b c d = a
pixel_of Sixteen a b c d = a * 256 + b
pixel_of ThirtyTwo a b c d = a * 16777216 + b * 65536 + c * 256 + d

abbrev pub turned : BitsPerPixel → (first second third fourth : ℕ) → ℕ
turned Eight a b c d = a
turned Sixteen a b c d = b * 256 + a
turned ThirtyTwo a b c d = d * 16777216 + c * 65536 + b * 256 + a

abbrev pub pixel_of_bytes : PixelFormat → (bytes : List ℕ) → (place : ℕ) → ℕ
pixel_of_bytes f bytes k =
    if f.big_endian then pixel_of (bits_of f) (slice_index bytes k) (slice_index bytes (k + 1)) (slice_index bytes (k + 2)) (slice_index bytes (k + 3))
    else turned (bits_of f) (slice_index bytes k) (slice_index bytes (k + 1)) (slice_index bytes (k + 2)) (slice_index bytes (k + 3))
