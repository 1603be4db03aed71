-- Rows of maximal intervals, and what is kept of two.
use Rattle.std.specs.Prelude.{◌≡◌, Bool, ◌&&◌, ◌||◌, not, List, [], ◌∷◌, ℤ, ◌<ℤ◌, int_lt, int_le}
use Rattle.std.specs.List.{list_any}
use Rattle.region_bands.specs.declared.Interval.{Interval}
use Rattle.region_rows.specs.declared.Keep.{Keep}
use Rattle.region_rows.specs.declared.Keep.TheVariants.{Either, Both, FirstAlone}

-- whether the column is in one of the intervals
abbrev pub row_has : List Interval → ℤ → Bool
row_has row x = list_any (λ i. int_le i.from x && int_lt x i.to) row

-- maximal intervals from the left: none is empty, and each begins behind the end of the one before
abbrev pub IsRow : List Interval → Type 0
IsRow [] = Unit {0}
IsRow (i ∷ []) = i.from <ℤ i.to
IsRow (i ∷ j ∷ rest) = (i.from <ℤ i.to) × (i.to <ℤ j.from) × IsRow (j ∷ rest)

-- whether a column is kept, by whether it is in the first set and in the second
abbrev pub keeps_place : Keep → Bool → Bool → Bool
keeps_place Either a b = a || b
keeps_place Both a b = a && b
keeps_place FirstAlone a b = a && not b

-- the row has the columns that are kept of two rows
pub record IsKept (keep : Keep) (a b row : List Interval) : Type 0 where
  pub is_row : IsRow row
  pub has : (x : ℤ) → row_has row x ≡ keeps_place keep (row_has a x) (row_has b x)
