-- What contracts see of a list of bands.
use Rattle.std.specs.Prelude.{ℕ, ◌+◌, ℤ, List, [], ◌∷◌, length}
use Rattle.region_bands.specs.declared.Interval.{Interval}
use Rattle.region_bands.specs.declared.Rows.{Rows}

-- a band: its rows, and the intervals of its columns
pub record Band : Type 0 where
  pub top : ℤ
  pub bottom : ℤ
  pub row : List Interval

-- the bands above the gap and below it, from the top; the row in the making; what is left to read of the intervals of the
-- first band below; and how many more nodes fit with no allocation
pub record Bands : Type 0 where
  pub above : List Band
  pub row : List Interval
  pub left : List Interval
  pub below : List Band
  pub spare : ℕ

-- no bands, no row and no room
abbrev pub nothing : Bands
nothing = record { above = []; row = []; left = []; below = []; spare = 0 }

abbrev pub rows_of : Band → Rows
rows_of band = record { top = band.top; bottom = band.bottom }

abbrev pub row_of : Band → List Interval
row_of band = band.row

abbrev pub band_with : Rows → List Interval → Band
band_with rows row = record { top = rows.top; bottom = rows.bottom; row = row }

-- the intervals of the first band; none where there is no band
abbrev pub first_row : List Band → List Interval
first_row [] = []
first_row (band ∷ rest) = band.row

-- how many nodes the bands take
abbrev pub nodes_in : List Band → ℕ
nodes_in [] = 0
nodes_in (band ∷ rest) = 2 + length band.row + nodes_in rest

-- the bands that a reader still has to read, and what is left of the first one's intervals
pub record Reading : Type 0 where
  pub bands : List Band
  pub left : List Interval

abbrev pub reading : List Band → Reading
reading bands = record { bands = bands; left = first_row bands }

abbrev pub reading_of : Bands → Reading
reading_of v = record { bands = v.below; left = v.left }
