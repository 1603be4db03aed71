-- What a viewer has set, as a program in C is given it.
use Rattle.std.specs.Prelude.{ℕ, ◌^◌, ◌/◌, ◌%◌, List, [], ◌∷◌}
use Rattle.screen.specs.declared.Encoding.{Encoding}
use Rattle.screen.specs.declared.Encoding.TheVariants.{Raw, Rre, Hextile}
use Rattle.screen.specs.declared.BitsPerPixel.{BitsPerPixel}
use Rattle.screen.specs.declared.BitsPerPixel.TheVariants.{Eight, Sixteen, ThirtyTwo}
use Rattle.screen.specs.declared.Pixels.{Pixels}
use Rattle.screen.specs.declared.Pixels.TheVariants.{TrueColour, ColourMap}
use Rattle.screen.specs.declared.Settings.{Settings}
use Rattle.c_screen.specs.declared.settings.ViewerSettings.{ViewerSettings}
use Rattle.c_screen.specs.Inputs.{one_if}

-- an encoding's number (RFC 6143, 7.7)
abbrev pub encoding_number : Encoding → ℕ
encoding_number Raw = 0
encoding_number Rre = 2
encoding_number Hextile = 5

abbrev pub bit_count : BitsPerPixel → ℕ
bit_count Eight = 8
bit_count Sixteen = 16
bit_count ThirtyTwo = 32

-- of a format with a colour map, whose pixels have 8 bits
abbrev pub with_colour_map : Settings → ViewerSettings
with_colour_map s = record {
  shared = one_if s.shared;
  encoding = encoding_number s.encoding;
  copy_rect = one_if s.uses_copyrect;
  desktop_size = one_if s.takes_sizes;
  bits_per_pixel = 8;
  depth = s.format.depth;
  big_endian = one_if s.format.big_endian;
  true_colour = 0;
  red_max = 0;
  green_max = 0;
  blue_max = 0;
  red_shift = 0;
  green_shift = 0;
  blue_shift = 0;
  full_requests = s.full_requests;
}

-- by what a pixel is
abbrev pub settings_by : Settings → Pixels → ViewerSettings
settings_by s ColourMap = with_colour_map s
settings_by s (TrueColour bits red green blue) = record (with_colour_map s) {
  bits_per_pixel = bit_count bits;
  true_colour = 1;
  red_max = red.max;
  green_max = green.max;
  blue_max = blue.max;
  red_shift = red.shift;
  green_shift = green.shift;
  blue_shift = blue.shift;
}

abbrev pub settings_as : Settings → ViewerSettings
settings_as s = settings_by s s.format.pixels

-- these in 32-bit words, in the order of their fields; the count of full requests is two, its lower half first
abbrev pub words_of : ViewerSettings → List ℕ
words_of v = v.shared ∷ v.encoding ∷ v.copy_rect ∷ v.desktop_size ∷ v.bits_per_pixel ∷ v.depth ∷ v.big_endian ∷ v.true_colour ∷
    v.red_max ∷ v.green_max ∷ v.blue_max ∷ v.red_shift ∷ v.green_shift ∷ v.blue_shift ∷ v.full_requests % 2 ^ 32 ∷ v.full_requests / 2 ^ 32 ∷ []

abbrev pub settings_words : Settings → List ℕ
settings_words s = words_of (settings_as s)
