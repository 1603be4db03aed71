-- The colours of a row's pixels beside those of a row of a picture.
use Rattle.std.specs.Prelude.{◌≡◌, ◌≢◌, ℕ, ◌-◌, ◌<◌, ◌≤◌, Bool, not, ◌==◌, List, length, map, slice_index}
use Rattle.std.specs.List.{range_with_len, count_by}
use Rattle.source_pixels.specs.declared.rows.RowDifference.{RowDifference}

abbrev pub differs : List ℕ → List ℕ → ℕ → Bool
differs colours row x = not (slice_index colours x == slice_index row x)

-- in how many of the first places they differ
abbrev pub difference_count : (colours row : List ℕ) → (places : ℕ) → ℕ
difference_count colours row places = count_by (λ is_other. is_other) (map (differs colours row) (range_with_len 0 places))

-- from one column to below another no place differs
abbrev pub AreSame : (colours row : List ℕ) → (from to : ℕ) → Type 0
AreSame colours row from to = (x : ℕ) → from ≤ x → x < to → slice_index colours x ≡ slice_index row x

-- they differ in the first and in the last of some columns, and in none outside
pub record IsDifference (colours row : List ℕ) (d : RowDifference) : Type 0 where
  pub some : d.from < d.to
  pub inside : d.to ≤ length row
  pub first : slice_index colours d.from ≢ slice_index row d.from
  pub last : slice_index colours (d.to - 1) ≢ slice_index row (d.to - 1)
  pub before : AreSame colours row 0 d.from
  pub behind : AreSame colours row d.to (length row)
  pub places : d.places ≡ difference_count colours row (length row)
  pub some_places : 0 < d.places
