-- Translations by table.
use Rattle.std.specs.Prelude.{◌≡◌, ℕ, ◌<◌, List, slice_index}
use Rattle.pixel_translate.specs.declared.BitsPerPixel.{BitsPerPixel}
use Rattle.pixel_translate.specs.declared.Component.{Component}
use Rattle.pixel_translate.specs.declared.PixelFormat.{PixelFormat}
use Rattle.pixel_translate.specs.Pixel.{component, bits_of, red_in, green_in, blue_in}

-- what each value of a component gives
abbrev pub IsRowOf : BitsPerPixel → Component → List ℕ → Type 0
IsRowOf bits at row = (k : ℕ) → k < 256 → slice_index row k ≡ component bits at k

-- and of each component of a format
pub record IsTableOf (f : PixelFormat) (red green blue : List ℕ) : Type 0 where
  pub red_row : IsRowOf (bits_of f) (red_in f.pixels) red
  pub green_row : IsRowOf (bits_of f) (green_in f.pixels) green
  pub blue_row : IsRowOf (bits_of f) (blue_in f.pixels) blue
