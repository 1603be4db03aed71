-- Sets of places as bands of rows.
use Rattle.std.specs.Prelude.{◌≡◌, ◌≢◌, ◌+◌, ℕ, Bool, ◌&&◌, List, [], ◌∷◌, length, ℤ, ◌<ℤ◌, ◌≤ℤ◌, int_lt, int_le}
use Rattle.std.specs.List.{list_any, AllByRecursion}
use Rattle.region_bands.specs.declared.Interval.{Interval}
use Rattle.region_bands.specs.declared.Rows.{Rows}
use Rattle.region_bands.specs.Bands.{Band, rows_of}
use Rattle.region_rows.specs.declared.Keep.{Keep}
use Rattle.region_rows.specs.Rows.{IsRow, row_has, keeps_place}

-- whether y is among the rows
abbrev pub in_rows : Rows → ℤ → Bool
in_rows rows y = int_le rows.top y && int_lt y rows.bottom

-- whether the place is in one of the bands
abbrev pub has : List Band → ℤ → ℤ → Bool
has bands x y = list_any (λ b. in_rows (rows_of b) y && row_has b.row x) bands

-- a band has a row at least, and in it a row of maximal intervals, not empty
pub record IsBand (b : Band) : Type 0 where
  pub some : b.top <ℤ b.bottom
  pub row : IsRow b.row
  pub columns : b.row ≢ []

-- the second band stands below the first, with another row where they touch
pub record Follows (b c : Band) : Type 0 where
  pub order : b.bottom ≤ℤ c.top
  pub apart : b.bottom ≡ c.top → b.row ≢ c.row

-- maximal bands, from the top
abbrev pub AreBands : List Band → Type 0
AreBands [] = Unit {0}
AreBands (b ∷ []) = IsBand b
AreBands (b ∷ c ∷ rest) = IsBand b × Follows b c × AreBands (c ∷ rest)

-- each band ends at y or above it
abbrev pub EndBy : ℤ → List Band → Type 0
EndBy y bands = AllByRecursion (λ b. b.bottom ≤ℤ y) bands

-- the bands have the places that are kept of two lists of bands
pub record IsKept (keep : Keep) (a b bands : List Band) : Type 0 where
  pub are_bands : AreBands bands
  pub has : (x y : ℤ) → has bands x y ≡ keeps_place keep (has a x y) (has b x y)

-- the nodes that a row takes behind the row above it: none if it has no columns, or goes on that one
pub record Counts (above row : List Interval) (nodes : ℕ) : Type 0 where
  pub none : row ≡ [] → nodes ≡ 0
  pub goes_on : row ≡ above → nodes ≡ 0
  pub new : row ≢ [] → row ≢ above → nodes ≡ 2 + length row
