-- What the bytes of a pixel say: RFC 6143, section 7.4, read from the pixel to the colour.
use Rattle.std.specs.Prelude.{◌≡◌, ℕ, ◌+◌, ◌-◌, ◌*◌, ◌/◌, ◌%◌, ◌^◌, Bool, false, ◌&&◌, nat_le, nat_lt, if◌then◌else◌, List, [], ◌∷◌, reverse, slice_index, bit_and}
use Rattle.pixel_translate.specs.declared.Component.{Component}
use Rattle.source_pixels.specs.declared.formats.BytesPerPixel.{BytesPerPixel}
use Rattle.source_pixels.specs.declared.formats.BytesPerPixel.TheVariants.{One, Two, Three, Four}
use Rattle.source_pixels.specs.declared.formats.TrueColour.{TrueColour}
use Rattle.source_pixels.specs.declared.formats.SourceFormat.{SourceFormat}
use Rattle.source_pixels.specs.declared.formats.SourceFormat.TheVariants as kind

abbrev pub byte_count : BytesPerPixel → ℕ
byte_count One = 1
byte_count Two = 2
byte_count Three = 3
byte_count Four = 4

-- a pixel's number, from the lowest of its bytes on
abbrev pub little : List ℕ → ℕ
little [] = 0
little (byte ∷ higher) = byte + 256 * little higher

abbrev pub number_of : Bool → List ℕ → ℕ
number_of big_endian bytes = little (if big_endian then reverse bytes else bytes)

-- "shift right by red-shift, and then apply a bitwise AND with red-max"
abbrev pub value_in : Component → ℕ → ℕ
value_in c number = bit_and (number / 2 ^ c.shift) c.max

-- a value of 0 to the component's maximum, at the scale of 0 to 255, to the nearest
abbrev pub scaled : Component → ℕ → ℕ
scaled c value = (value * 255 + c.max / 2) / c.max

abbrev pub true_colour : TrueColour → ℕ → ℕ
true_colour f number =
    scaled f.red (value_in f.red number) * 2 ^ 16 + scaled f.green (value_in f.green number) * 2 ^ 8 + scaled f.blue (value_in f.blue number)

-- 0 beyond the table
abbrev pub table_colour : (table : List ℕ) → (place : ℕ) → ℕ
table_colour table place = slice_index table place % 2 ^ 24

-- the colour 0x00RRGGBB of a pixel, by its bytes
abbrev pub colour_of : SourceFormat → List ℕ → ℕ
colour_of (kind.TrueColour f) bytes = true_colour f (number_of f.big_endian bytes)
colour_of (kind.Table table) bytes = table_colour table.now (slice_index bytes 0)

abbrev pub pixel_size : SourceFormat → ℕ
pixel_size (kind.TrueColour f) = byte_count f.bytes
pixel_size (kind.Table table) = 1

-- a component has a value above 0, and fits in so many bits, in its place
abbrev pub fits : ℕ → Component → Bool
fits bits c = nat_le 1 c.max && nat_lt c.max (2 ^ (bits - c.shift))

abbrev pub are_fitting : TrueColour → Bool
are_fitting f = fits (8 * byte_count f.bytes) f.red && fits (8 * byte_count f.bytes) f.green && fits (8 * byte_count f.bytes) f.blue

-- 32 bits, the lowest byte first, eight bits each of red, green and blue: a pixel is a colour 0x00RRGGBB
abbrev pub server_format : TrueColour
server_format = record {
  bytes = Four;
  big_endian = false;
  red = record { max = 255; shift = 16 };
  green = record { max = 255; shift = 8 };
  blue = record { max = 255; shift = 0 };
}

-- each component is 0 to 255, so that none is scaled
pub record HasWholeBytes (f : TrueColour) : Type 0 where
  pub red : f.red.max ≡ 255
  pub green : f.green.max ≡ 255
  pub blue : f.blue.max ≡ 255
