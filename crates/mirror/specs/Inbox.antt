-- What came of a source and wasn't read.
use Rattle.std.specs.Prelude.{◌≡◌, ℕ, ◌≤◌, List, length, Option, Result, MatchResult}
use Rattle.std.specs.Io.KnownBytes.{Consumes, IsAtEnd, Keeps}

-- the bytes from a place on below another are within the room, which has 64 KB
pub record IsWithin (start end : ℕ) (room : List ℕ) : Type 0 where
  pub ordered : start ≤ end
  pub within : end ≤ length room
  pub long : length room ≡ 65536

-- what a stream was known to give begins with all bytes that came, and loses them; none come at its end alone, or where the read failed
abbrev pub IsFilled : {E : Type 0} → (before after : Option (List ℕ)) → Result ℕ E → (bytes : List ℕ) → Type 0
IsFilled before after result bytes = MatchResult result (λ n. Consumes before after bytes × (n ≡ 0 → IsAtEnd after)) (λ _. Keeps before after)
