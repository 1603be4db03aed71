-- How large pixels and their components are, and how many bytes they have.
use Rattle.std.proofs.Common.{◌≡◌, ℕ, ◌+◌, ◌*◌, ◌/◌, ◌^◌, ◌<◌, Bool, true, false, cond, length, refl}
use Rattle.std.proofs.lemmas.Nat.{pow_pos, mod_below, or_lt}
use Rattle.pixel_translate.specs.declared.BitsPerPixel.{BitsPerPixel}
use Rattle.pixel_translate.specs.declared.BitsPerPixel.TheVariants.{Eight, Sixteen, ThirtyTwo}
use Rattle.pixel_translate.specs.declared.Component.{Component}
use Rattle.pixel_translate.specs.declared.PixelFormat.{PixelFormat}
use Rattle.std.specs.Int.{to_be_bytes, to_le_bytes}
use Rattle.pixel_translate.specs.Pixel.{bit_count, width_of, bytes_per_pixel, component, pixel, red_of, green_of, blue_of, bits_of, red_in, green_in, blue_in, pixel_bytes}

pub component_below : (b : BitsPerPixel) (at : Component) (value : ℕ) → component b at value < 2 ^ bit_count b
component_below b at value = mod_below ((value * at.max + 127) / 255 * 2 ^ at.shift) (2 ^ bit_count b) (pow_pos (bit_count b))

pub pixel_below : (f : PixelFormat) (colour : ℕ) → pixel f colour < 2 ^ bit_count (bits_of f)
pixel_below f colour =
    or_lt (bit_count (bits_of f)) _ _
    (or_lt (bit_count (bits_of f)) _ _ (component_below (bits_of f) (red_in f.pixels) (red_of colour)) (component_below (bits_of f) (green_in f.pixels) (green_of colour)))
    (component_below (bits_of f) (blue_in f.pixels) (blue_of colour))

length_of : (b : BitsPerPixel) (e : Bool) (n : ℕ) → length (cond e (to_be_bytes (width_of b) n) (to_le_bytes (width_of b) n)) ≡ bit_count b / 8
length_of Eight true n = refl
length_of Eight false n = refl
length_of Sixteen true n = refl
length_of Sixteen false n = refl
length_of ThirtyTwo true n = refl
length_of ThirtyTwo false n = refl

pub pixel_length : (f : PixelFormat) (n : ℕ) → length (pixel_bytes f n) ≡ bytes_per_pixel f
pixel_length f n = length_of (bits_of f) f.big_endian n
