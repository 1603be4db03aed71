-- What tests mean.
use Rattle.std.proofs.Common.{◌≡◌, ℕ, ◌<◌, ◌≤◌, Bool, true, false, ◌&&◌, ◌||◌, eqb, leb, List, ◌∷◌, length, refl, arith}
use Rattle.std.proofs.lemmas.Bool.Decides.{nat_tests}

pub both_true : (a b : Bool) → (a && b) ≡ true → (a ≡ true) × (b ≡ true)
both_true true b h = (refl, h)
both_true false b h = cc

pub either_false : (a b : Bool) → (a || b) ≡ false → (a ≡ false) × (b ≡ false)
either_false true b h = cc
either_false false b h = (refl, h)

pub not_empty : (n : ℕ) → 0 < n → eqb n 0 ≡ false
not_empty n h = grind (arith, nat_tests)

pub within : (n limit : ℕ) → n ≤ limit → leb n limit ≡ true
within n limit h = grind (arith, nat_tests)

pub below : (n limit : ℕ) → leb n limit ≡ true → n ≤ limit
below n limit h = grind (arith, nat_tests)

pub equal_from : (a b : ℕ) → eqb a b ≡ true → a ≡ b
equal_from a b h = grind (arith, nat_tests)

pub some_bytes : (b : ℕ) (bs : List ℕ) → eqb (length (b ∷ bs)) 0 ≡ false
some_bytes b bs = not_empty (length (b ∷ bs)) (omega arith)
