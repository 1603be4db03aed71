-- Worked values, which compute.
use Rattle.std.specs.Prelude.{◌≡◌, true, false, [], ◌∷◌, Some, None, refl}
use Rattle.source_pixels.specs.declared.formats.BytesPerPixel.TheVariants.{One, Two, Three}
use Rattle.source_pixels.specs.declared.formats.TrueColour.{TrueColour}
use Rattle.source_pixels.specs.declared.formats.SourceFormat.TheVariants as kind
use Rattle.source_pixels.specs.declared.errors.SourceError.TheVariants.{BadComponent, StrideTooShort, TooFewBytes}
use Rattle.source_pixels.specs.Formats.{colour_of, table_colour, server_format}
use Rattle.source_pixels.specs.Source.{Source, colour_at, source_refusal}

-- orange in the server's own format, with a top byte that doesn't count
orange_direct : colour_of (kind.TrueColour server_format) (0x00 ∷ 0x80 ∷ 0xff ∷ 0x77 ∷ []) ≡ 0xff8000
orange_direct = refl

-- 24 bits, the highest byte first
abbrev pub rgb24 : TrueColour
rgb24 = record server_format { bytes = Three; big_endian = true }

orange_24 : colour_of (kind.TrueColour rgb24) (0xff ∷ 0x80 ∷ 0x00 ∷ []) ≡ 0xff8000
orange_24 = refl

-- 16 bits, maxima 31, 63, 31, shifts 11, 5, 0: 32 of 63 is 129.52 of 255, which is 130
abbrev pub rgb565 : TrueColour
rgb565 = record {
  bytes = Two;
  big_endian = false;
  red = record { max = 31; shift = 11 };
  green = record { max = 63; shift = 5 };
  blue = record { max = 31; shift = 0 };
}

orange_16 : colour_of (kind.TrueColour rgb565) (0x00 ∷ 0xfc ∷ []) ≡ 0xff8200
orange_16 = refl

white_16 : colour_of (kind.TrueColour rgb565) (0xff ∷ 0xff ∷ []) ≡ 0xffffff
white_16 = refl

-- 8 bits, maxima 7, 7, 3, red lowest
abbrev pub bgr233 : TrueColour
bgr233 = record {
  bytes = One;
  big_endian = false;
  red = record { max = 7; shift = 0 };
  green = record { max = 7; shift = 3 };
  blue = record { max = 3; shift = 6 };
}

red_8 : colour_of (kind.TrueColour bgr233) (0x07 ∷ []) ≡ 0xff0000
red_8 = refl

blue_8 : colour_of (kind.TrueColour bgr233) (0x40 ∷ []) ≡ 0x000055
blue_8 = refl

in_table : table_colour (0xff112233 ∷ 0x445566 ∷ []) 0 ≡ 0x112233
in_table = refl

beyond_table : table_colour (0x112233 ∷ 0x445566 ∷ []) 2 ≡ 0
beyond_table = refl

-- two rows of one place, at a stride of 3 bytes, the last byte of which is not there
abbrev pub two_rows : Source
two_rows = record { width = 1; height = 2; stride = 3; bytes = 0x07 ∷ 0 ∷ 0 ∷ 0x38 ∷ []; format = kind.TrueColour bgr233 }

taken_in : source_refusal two_rows ≡ None
taken_in = refl

lower : colour_at two_rows 0 1 ≡ 0x00ff00
lower = refl

too_few : source_refusal (record two_rows { height = 3 }) ≡ Some TooFewBytes
too_few = refl

too_short : source_refusal (record two_rows { width = 4 }) ≡ Some StrideTooShort
too_short = refl

too_wide : source_refusal (record two_rows { format = kind.TrueColour (record bgr233 { red = record { max = 511; shift = 0 } }) }) ≡ Some BadComponent
too_wide = refl
