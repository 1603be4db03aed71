-- What is left of bytes that were encoded for several viewers.
use Rattle.std.proofs.Common.{◌≡◌, ℕ, ◌≤◌, List, [], ◌∷◌, length, drop, refl, arith}
use Rattle.std.proofs.lemmas.List.{length-drop}

none : (l : List ℕ) → length l ≤ 0 → l ≡ []
none [] e = refl
none (b ∷ l) e = absurd (omega (arith, e))

-- where all bytes are given, none is left
pub none_behind : (bytes : List ℕ) (given : ℕ) → length bytes ≤ given → drop given bytes ≡ []
none_behind bytes given all = none (drop given bytes) (omega (arith, all, length-drop given bytes))
