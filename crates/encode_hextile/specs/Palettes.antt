-- What is known of a tile before it is scanned.
use Rattle.std.specs.Prelude.{◌≡◌, ℕ, ◌*◌, ◌≤◌, true, List, length, flat_map}
use Rattle.pixel_translate.specs.declared.PixelFormat.{PixelFormat}
use Rattle.pixel_translate.specs.Pixel.{bytes_per_pixel}
use Rattle.subrectangles.specs.Subrectangles.{rows_of, background_of, subrectangles}
use Rattle.encode_hextile.specs.declared.palette.Palette.{Palette}
use Rattle.encode_hextile.specs.declared.TilePixels.TheVariants.{Several}
use Rattle.encode_hextile.specs.Hextile.{others_of, subrectangle_bytes}

-- its background, and which pixels it has beside it
abbrev pub IsPaletteOf : List ℕ → Palette → Type 0
IsPaletteOf pixels palette = (palette.background ≡ background_of pixels) × (palette.others ≡ others_of (background_of pixels) pixels)

abbrev pub HasSeveral : List ℕ → Type 0
HasSeveral pixels = Several ≡ others_of (background_of pixels) pixels

-- coloured subrectangles over b are at least as long as the pixels, w in a row
abbrev pub AreLong : PixelFormat → ℕ → ℕ → List ℕ → ℕ → Type 0
AreLong f w h pixels b = length pixels * bytes_per_pixel f ≤ length (flat_map (subrectangle_bytes f true) (subrectangles b (rows_of w h pixels)))
