-- The pixels of a rectangle, as a list of rows, and places that have some of them.
use Rattle.std.specs.Prelude.{◌≡◌, ℕ, ◌*◌, ◌-◌, ◌<◌, List, length, map, Option, OnSome}
use Rattle.std.proofs.Common.{None, Some, Bor, refl, arith, ◌∙◌}
use Rattle.std.proofs.lemmas.List.{length-map}
use Rattle.pixel_translate.specs.declared.PixelFormat.{PixelFormat}
use Rattle.pixel_translate.specs.Pixel.{pixel}
use Rattle.subrectangles.specs.declared.lines.Lines.{Lines}
use Rattle.subrectangles.specs.declared.translated.Pixels.{Pixels}
use Rattle.subrectangles.specs.declared.translated.TwoRows.{TwoRows}
use Rattle.subrectangles.specs.Subrectangles.{rows_of, row_at}
use Rattle.subrectangles.specs.Lines.{values_in, some_values}

-- a colour's pixel by a table, or the colour where there is none
abbrev pub pixel_by : Option (Bor PixelFormat) → ℕ → ℕ
pixel_by None colour = colour
pixel_by (Some table) colour = pixel table.now colour

-- the pixel of each colour
abbrev pub translated : Option (Bor PixelFormat) → List ℕ → List ℕ
translated None colours = colours
translated (Some table) colours = map (pixel table.now) colours

-- the pixels, row behind row
abbrev pub pixels_in : Pixels → List ℕ
pixels_in p = translated p.table (values_in p.colours)

-- the rows from the top, each from left to right
abbrev pub pixel_lines : Pixels → List (List ℕ)
pixel_lines p = rows_of p.colours.width p.colours.height (pixels_in p)

-- the same of pixels that are translated
abbrev pub translated_lines : PixelFormat → Lines → List (List ℕ)
translated_lines format colours = rows_of colours.width colours.height (map (pixel format) (values_in colours))

-- where pixels aren't the colours themselves, the places are as many as a row has
abbrev pub HasRoom : Pixels → List ℕ → Type 0
HasRoom p places = OnSome p.table (length places ≡ p.colours.width)

-- and have the pixels of the row at y
abbrev pub HasRow : Pixels → ℕ → List ℕ → Type 0
HasRow p y places = OnSome p.table (places ≡ row_at (pixel_lines p) y)

-- the same of two rows
pub record HaveRoom (p : Pixels) (rows : TwoRows) : Type 0 where
  pub row : HasRoom p rows.row.items
  pub above : HasRoom p rows.above.items

-- the row at y, and the one above it, if there is one
pub record HasRows (p : Pixels) (y : ℕ) (rows : TwoRows) : Type 0 where
  pub row : HasRow p y rows.row.items
  pub above : HasRow p (y - 1) rows.above.items

-- ---- as many pixels as colours

pub translated_length : (table : Option (Bor PixelFormat)) (colours : List ℕ) → length (translated table colours) ≡ length colours
translated_length None colours = refl
translated_length (Some table) colours = length-map colours (pixel table.now)

pub whole : (p : Pixels) → length (pixels_in p) ≡ p.colours.width * p.colours.height
whole p = translated_length p.table (values_in p.colours) ∙ p.colours.whole

pub some_pixels : (p : Pixels) → 0 < length (pixels_in p)
some_pixels p = omega (arith, translated_length p.table (values_in p.colours), some_values p.colours)
