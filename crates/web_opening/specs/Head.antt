-- A request's head as it comes in pieces: an empty line ends it (RFC 9112, 2.1).
use Rattle.std.specs.Prelude.{◌≡◌, ℕ, Bool, ◌||◌, nat_eq, nat_le, List, [], ◌∷◌, ◌++◌, length, codes, if◌then◌else◌}
use Rattle.std.specs.List.{ends_with}

-- the most bytes of a head that are held
abbrev pub most_bytes : ℕ
most_bytes = 8192

-- the bytes end in an empty line: CR LF CR LF
unfoldable pub ends_in_empty_line : List ℕ → Bool
ends_in_empty_line bytes = ends_with nat_eq bytes (codes "\r\n\r\n")

-- nothing more is taken: the head has ended, or as many bytes are held as may be
unfoldable pub is_done : List ℕ → Bool
is_done bytes = ends_in_empty_line bytes || nat_le most_bytes (length bytes)

-- what is held once more bytes have come: they are taken one by one, until what is held is done
abbrev pub held_after : List ℕ → List ℕ → List ℕ
held_after held [] = held
held_after held (b ∷ bytes) = if is_done held then held else held_after (held ++ b ∷ []) bytes

-- bytes that come in two pieces leave what they leave in one
abbrev pub TakesAnyCut : Type 0
TakesAnyCut = (held front back : List ℕ) → held_after (held_after held front) back ≡ held_after held (front ++ back)
