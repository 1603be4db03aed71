-- How much a transport carries at most, as far as its bytes are known.
use Rattle.std.specs.Prelude.{ℕ, ◌≤◌, ◌+◌, List, length, Option, Some, None}

-- at most so many bytes were written between two moments
abbrev pub AreWrittenAtMost : ℕ → Option (List ℕ) → Option (List ℕ) → Type 0
AreWrittenAtMost most None now = Unit {0}
AreWrittenAtMost most (Some before) None = ⊥
AreWrittenAtMost most (Some before) (Some now) = length now ≤ length before + most

-- at most so many were read
abbrev pub AreReadAtMost : ℕ → Option (List ℕ) → Option (List ℕ) → Type 0
AreReadAtMost most None now = Unit {0}
AreReadAtMost most (Some before) None = ⊥
AreReadAtMost most (Some before) (Some now) = length before ≤ length now + most
