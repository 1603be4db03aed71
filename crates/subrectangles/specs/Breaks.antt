-- Places that differ from what is before them and above them.
use Rattle.std.specs.Prelude.{ℕ, zero, suc, ◌+◌, ◌-◌, ◌%◌, Bool, ◌&&◌, not, ◌==◌, nat_lt, if◌then◌else◌, List, slice_index}

-- the pixel at x is not the one before it and not the one above it
abbrev pub is_break : List ℕ → List ℕ → ℕ → Bool
is_break row above x = nat_lt 0 x && not (slice_index row (x - 1) == slice_index row x) && not (slice_index above x == slice_index row x)

-- how many of the first places are such
abbrev pub breaks : (row above : List ℕ) → (places : ℕ) → ℕ
breaks row above zero = 0
breaks row above (suc x) = breaks row above x + (if is_break row above x then 1 else 0)

-- and of those how many have a pixel with that rest
abbrev pub is_like : ℕ → List ℕ → List ℕ → ℕ → Bool
is_like k row above x = is_break row above x && (slice_index row x % 251 == k)

abbrev pub breaks_like : (offset : ℕ) → (row above : List ℕ) → (places : ℕ) → ℕ
breaks_like k row above zero = 0
breaks_like k row above (suc x) = breaks_like k row above x + (if is_like k row above x then 1 else 0)
