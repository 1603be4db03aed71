-- Where the runs of a row begin, written one behind another.
use Rattle.std.specs.Prelude.{◌≡◌, ℕ, ◌+◌, ◌-◌, ◌<◌, ◌≤◌, List, length, slice_index}
use Rattle.subrectangles.specs.Subrectangles.{stretch}

-- the first run begins at 0, each one ends where the next one begins, and the last of so many ends with the row
pub record AreRuns (row starts : List ℕ) (count : ℕ) : Type 0 where
  pub first : slice_index starts 0 ≡ 0
  pub last : slice_index starts count ≡ length row
  pub inside : (k : ℕ) → k < count → slice_index starts k < slice_index starts (k + 1)
  pub within : (k : ℕ) → k ≤ count → slice_index starts k ≤ length row
  pub steps : (k : ℕ) → k < count → slice_index starts (k + 1) ≡ slice_index starts k + stretch row (slice_index starts k)
  pub few : count ≤ length row

-- the runs that begin before x are found: all but the last of them end, and the pixels from where that one begins are one
pub record Found (row starts : List ℕ) (count x : ℕ) : Type 0 where
  pub some : 0 < count
  pub few : count ≤ x
  pub within : x ≤ length row
  pub first : slice_index starts 0 ≡ 0
  pub inside : (k : ℕ) → k < count → slice_index starts k < x
  pub grows : (k : ℕ) → k + 1 < count → slice_index starts k < slice_index starts (k + 1)
  pub steps : (k : ℕ) → k + 1 < count → slice_index starts (k + 1) ≡ slice_index starts k + stretch row (slice_index starts k)
  pub same : (k : ℕ) → slice_index starts (count - 1) ≤ k → k < x → slice_index row k ≡ slice_index row (slice_index starts (count - 1))
