-- Bands that are moved.
use Rattle.std.specs.Prelude.{List, [], ◌∷◌, map, ℤ, ◌+ℤ◌, FitsSigned}
use Rattle.std.specs.Int.{w32}
use Rattle.std.specs.List.{AllByRecursion}
use Rattle.region_bands.specs.declared.Interval.{Interval}
use Rattle.region_bands.specs.declared.Rows.{Rows}
use Rattle.region_bands.specs.Bands.{Band, rows_of}

abbrev pub moved_interval : ℤ → Interval → Interval
moved_interval dx i = record { from = i.from +ℤ dx; to = i.to +ℤ dx }

abbrev pub moved_rows : ℤ → Rows → Rows
moved_rows dy r = record { top = r.top +ℤ dy; bottom = r.bottom +ℤ dy }

-- the band, so many columns and rows further
abbrev pub moved_band : ℤ → ℤ → Band → Band
moved_band dx dy b = record { top = b.top +ℤ dy; bottom = b.bottom +ℤ dy; row = map (moved_interval dx) b.row }

-- the interval's ends fit an i32 also once they were moved
pub record IsMovableInterval (dx : ℤ) (i : Interval) : Type 0 where
  pub from : FitsSigned w32 (i.from +ℤ dx)
  pub to : FitsSigned w32 (i.to +ℤ dx)

pub record AreMovableRows (dy : ℤ) (r : Rows) : Type 0 where
  pub top : FitsSigned w32 (r.top +ℤ dy)
  pub bottom : FitsSigned w32 (r.bottom +ℤ dy)

-- each of the band's numbers fits an i32 also once it was moved
pub record IsMovable (dx dy : ℤ) (b : Band) : Type 0 where
  pub rows : AreMovableRows dy (rows_of b)
  pub row : AllByRecursion (IsMovableInterval dx) b.row

-- the bands, the first with another row
abbrev pub with_first_row : List Interval → List Band → List Band
with_first_row row [] = []
with_first_row row (b ∷ rest) = record b { row = row } ∷ rest
