-- How many bytes moved over a socket.
use Rattle.std.specs.Prelude.{ℕ, ◌+◌, ◌-◌, ◌^◌, min, Result, Ok, Err}

-- a count with so many more as a read or a write moved; it stops at 2 ^ 64 - 1
abbrev pub counted : {E : Type 0} → ℕ → Result ℕ E → ℕ
counted count (Ok more) = min (count + more) (2 ^ 64 - 1)
counted count (Err _) = count
