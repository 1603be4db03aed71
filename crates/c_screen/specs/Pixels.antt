-- A program's own pixels, as another language lays them out.
use Rattle.std.specs.Prelude.{◌≡◌, ℕ, ◌==◌, not, nat_le, ◌&&◌, if◌then◌else◌, ℤ, List, [], ◌∷◌, Option, Some, None, option_map, option_and_then}
use Rattle.pixel_translate.specs.declared.Component.{Component}
use Rattle.source_pixels.specs.declared.formats.BytesPerPixel.{BytesPerPixel}
use Rattle.source_pixels.specs.declared.formats.BytesPerPixel.TheVariants.{One, Two, Three, Four}
use Rattle.source_pixels.specs.declared.formats.TrueColour.{TrueColour as Layout}
use Rattle.source_pixels.specs.declared.formats.SourceFormat.{SourceFormat}
use Rattle.source_pixels.specs.declared.formats.SourceFormat.TheVariants.{TrueColour}
use Rattle.source_pixels.specs.declared.errors.SourceError.{SourceError}
use Rattle.source_pixels.specs.declared.errors.SourceError.TheVariants.{BadComponent, BadTable, StrideTooShort, TooFewBytes}
use Rattle.source_pixels.specs.Formats.{server_format}
use Rattle.source_pixels.specs.Source.{Source, source_refusal}
use Rattle.c_screen.specs.Codes.{minus}
use Rattle.c_screen.specs.declared.pixels.PixelLayout.{PixelLayout}

abbrev pub bad_format : ℤ
bad_format = minus 17

abbrev pub bad_stride : ℤ
bad_stride = minus 18

abbrev pub too_few_bytes : ℤ
too_few_bytes = minus 19

abbrev pub bytes_of : ℕ → Option BytesPerPixel
bytes_of n = if n == 1 then Some One else (if n == 2 then Some Two else (if n == 3 then Some Three else (if n == 4 then Some Four else None)))

-- a component whose greatest value has 16 bits
abbrev pub component_of : ℕ → ℕ → Option Component
component_of max shift = if nat_le max 0xffff && nat_le shift 0xff then Some (record { max = max; shift = shift }) else None

infixl 10 ◌>>=◌
abbrev pub ◌>>=◌ : {A B : Type 0} → Option A → (A → Option B) → Option B
o >>= f = option_and_then f o

abbrev pub true_colour_of : PixelLayout → Option Layout
true_colour_of l =
    bytes_of l.bytes_per_pixel >>= λ bytes.
    component_of l.red_max l.red_shift >>= λ red.
    component_of l.green_max l.green_shift >>= λ green.
    component_of l.blue_max l.blue_shift >>= λ blue.
    Some (record { bytes = bytes; big_endian = not (l.big_endian == 0); red = red; green = green; blue = blue })

-- what a pixel's bytes say: by a layout; by a table of so many colours where there is none; and where there is neither, as 0x00RRGGBB
abbrev pub format_of : List PixelLayout → ℕ → SourceFormat → Option SourceFormat
format_of [] n table = if n == 0 then Some (TrueColour server_format) else Some table
format_of (l ∷ []) n table = if n == 0 then option_map TrueColour (true_colour_of l) else None
format_of (l ∷ m ∷ ls) n table = None

abbrev pub source_from : (width height stride : ℕ) → List ℕ → Option SourceFormat → Option Source
source_from width height stride bytes format = option_map (λ f. record { width = width; height = height; stride = stride; bytes = bytes; format = f }) format

abbrev pub source_code : SourceError → ℤ
source_code BadComponent = bad_format
source_code BadTable = bad_format
source_code StrideTooShort = bad_stride
source_code TooFewBytes = too_few_bytes

-- why pixels are refused, if they are
abbrev pub source_due : Option Source → Option ℤ
source_due None = Some bad_format
source_due (Some s) = option_map source_code (source_refusal s)
