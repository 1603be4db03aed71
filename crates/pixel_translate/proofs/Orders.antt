-- The bytes of many pixels in one order of bytes.
use Rattle.std.proofs.Common.{◌≡◌, ℕ, Bool, true, false, cond, List, ap, ◌∙◌}
use Rattle.std.specs.List.{flat_map}
use Rattle.std.specs.Int.{to_be_bytes, to_le_bytes}
use Rattle.pixel_translate.specs.declared.BitsPerPixel.{BitsPerPixel}
use Rattle.pixel_translate.specs.declared.PixelFormat.{PixelFormat}
use Rattle.pixel_translate.specs.Pixel.{width_of, bits_of}
use Rattle.pixel_translate.specs.Bytes.{bytes_by}

abbrev written : Bool → BitsPerPixel → (ℕ → ℕ) → List ℕ → List ℕ
written big bits number values = flat_map (λ value. cond big (to_be_bytes (width_of bits) (number value)) (to_le_bytes (width_of bits) (number value))) values

ordered : (f : PixelFormat) (number : ℕ → ℕ) (big : Bool) (bits : BitsPerPixel) (values : List ℕ) → bits_of f ≡ bits → f.big_endian ≡ big
    → flat_map (bytes_by f number) values ≡ written big bits number values
ordered f number big bits values width order =
    ap (λ (t : Bool). written t (bits_of f) number values) order ∙ ap (λ (t : BitsPerPixel). written big t number values) width

pub highest_first : (f : PixelFormat) (number : ℕ → ℕ) (bits : BitsPerPixel) (values : List ℕ) → bits_of f ≡ bits → f.big_endian ≡ true
    → flat_map (bytes_by f number) values ≡ flat_map (λ value. to_be_bytes (width_of bits) (number value)) values
highest_first f number bits values width order = ordered f number true bits values width order

pub lowest_first : (f : PixelFormat) (number : ℕ → ℕ) (bits : BitsPerPixel) (values : List ℕ) → bits_of f ≡ bits → f.big_endian ≡ false
    → flat_map (bytes_by f number) values ≡ flat_map (λ value. to_le_bytes (width_of bits) (number value)) values
lowest_first f number bits values width order = ordered f number false bits values width order
