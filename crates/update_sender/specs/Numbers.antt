-- The numbers by which viewers connect to one screen: each is greater than those before it.
use Rattle.std.specs.Prelude.{ℕ, Bool, true, ◌&&◌, nat_lt, List, [], ◌∷◌, Option, Some, None}

abbrev pub rises : List ℕ → Bool
rises [] = true
rises (v ∷ []) = true
rises (v ∷ w ∷ vs) = nat_lt v w && rises (w ∷ vs)

-- the greatest number of a list that rises
abbrev pub newest : List ℕ → Option ℕ
newest [] = None
newest (v ∷ []) = Some v
newest (v ∷ w ∷ vs) = newest (w ∷ vs)

-- whether a number is greater than the greatest before it
abbrev pub is_next : Option ℕ → ℕ → Bool
is_next None n = true
is_next (Some greatest) n = nat_lt greatest n
