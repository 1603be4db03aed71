-- Bytes without their mask, one more at a time.
use Rattle.std.proofs.Common.{◌≡◌, ℕ, suc, ◌+◌, ◌<◌, ◌%◌, List, [], ◌∷◌, ◌++◌, length, take, get_or, bit_xor, refl, ap, ◌∙◌, arith}
use Rattle.std.proofs.lemmas.List.{take_more, length-take-le}
use Rattle.web_stream.specs.Next.{unmasked}

unmasked_append : (key : List ℕ) (i : ℕ) (xs ys : List ℕ) → unmasked key i (xs ++ ys) ≡ unmasked key i xs ++ unmasked key (i + length xs) ys
unmasked_append key i [] ys = let e : i ≡ i + 0 = omega arith in ap (λ (j : ℕ). unmasked key j ys) e
unmasked_append key i (x ∷ xs) ys =
    let e : i + 1 + length xs ≡ i + length (x ∷ xs) = omega arith in
    ap (λ (l : List ℕ). bit_xor x (get_or key (i % 4) 0) ∷ l)
    (unmasked_append key (i + 1) xs ys ∙ ap (λ (j : ℕ). unmasked key (i + 1) xs ++ unmasked key j ys) e)

-- the byte at i is unmasked by the key's byte i mod 4
pub unmasked_more : (key xs : List ℕ) (i : ℕ) → i < length xs
    → unmasked key 0 (take (i + 1) xs) ≡ unmasked key 0 (take i xs) ++ bit_xor (get_or xs i 0) (get_or key (i % 4) 0) ∷ []
unmasked_more key xs i h =
    let long : 0 + length (take i xs) ≡ i = omega (arith, length-take-le i xs (omega arith)) in
    ap (unmasked key 0) (take_more xs i 0 h) ∙ unmasked_append key 0 (take i xs) (get_or xs i 0 ∷ [])
    ∙ ap (λ (j : ℕ). unmasked key 0 (take i xs) ++ unmasked key j (get_or xs i 0 ∷ [])) long

pub length_unmasked : (key : List ℕ) (i : ℕ) (xs : List ℕ) → length (unmasked key i xs) ≡ length xs
length_unmasked key i [] = refl
length_unmasked key i (x ∷ xs) = ap suc (length_unmasked key (i + 1) xs)
