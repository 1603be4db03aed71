-- Bytes that are written in pieces.
use Rattle.std.proofs.Common.{◌≡◌, ◌+◌, ◌-◌, ◌≤◌, ℕ, zero, suc, List, [], ◌∷◌, ◌++◌, length, take, drop, Option, refl, sym, ap, ◌∙◌, subst, arith, length-drop}
use Rattle.std.specs.Io.KnownBytes.{Appends}
use Rattle.std.proofs.KnownBytes.{Appends-trans}

take_all : (xs : List ℕ) (n : ℕ) → length xs ≡ n → take n xs ≡ xs
take_all [] zero e = refl
take_all [] (suc n) e = refl
take_all (x ∷ xs) zero e = absurd (omega (arith, e))
take_all (x ∷ xs) (suc n) e = ap (λ l. x ∷ l) (take_all xs n (omega (arith, e)))

take_plus : (xs : List ℕ) (i n k : ℕ) → k ≡ i + n → take k xs ≡ take i xs ++ take n (drop i xs)
take_plus xs zero n k e = ap (λ m. take m xs) (omega (arith, e))
take_plus [] (suc i) zero zero e = refl
take_plus [] (suc i) zero (suc k) e = refl
take_plus [] (suc i) (suc n) zero e = refl
take_plus [] (suc i) (suc n) (suc k) e = refl
take_plus (x ∷ xs) (suc i) n zero e = absurd (omega (arith, e))
take_plus (x ∷ xs) (suc i) n (suc k) e = ap (λ l. x ∷ l) (take_plus xs i n k (omega (arith, e)))

pub further : (a b c : Option (List ℕ)) (xs : List ℕ) (i n : ℕ) → Appends a b (take i xs) → Appends b c (take n (take (length xs - i) (drop i xs))) → Appends a c (take (i + n) xs)
further a b c xs i n p q =
    let rest : take (length xs - i) (drop i xs) ≡ drop i xs = take_all (drop i xs) (length xs - i) (length-drop i xs) in
    subst (λ (l : List ℕ). Appends a c l) (sym (take_plus xs i n (i + n) refl)) (Appends-trans a b c (take i xs) (take n (drop i xs)) p (subst (λ (l : List ℕ). Appends b c (take n l)) rest q))

-- no more than is there
pub within : (xs : List ℕ) (i n : ℕ) → i ≤ length xs → n ≤ length (take (length xs - i) (drop i xs)) → i + n ≤ length xs
within xs i n small bound =
    let rest = ap (λ (l : List ℕ). length l) (take_all (drop i xs) (length xs - i) (length-drop i xs)) in
    omega (arith, small, bound, rest, length-drop i xs)
