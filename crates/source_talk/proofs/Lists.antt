-- Lists of bytes.
use Rattle.std.proofs.Common.{◌≡◌, ℕ, zero, suc, ◌-◌, ◌≤◌, min, List, [], ◌∷◌, ◌++◌, length, take, drop, refl, sym, ap, ◌∙◌, arith}
use Rattle.std.proofs.Common.{inl, inr}
use Rattle.std.proofs.lemmas.Bool.{cases_lt}
use Rattle.std.proofs.lemmas.List.{take_min, drop_all, length-take}
use Rattle.messages.proofs.ListLemmas.{take-append_room}

-- what is taken of a list that has fewer is all of it
pub take_within : (n : ℕ) (xs : List ℕ) → take (min (length xs) n) xs ≡ take n xs
take_within n xs = ap (λ (m : ℕ). take m xs) (let e : min (length xs) n ≡ min n (length xs) = omega arith in e) ∙ take_min n xs

-- what is dropped of a list that has fewer is all of it
pub drop_within : (n : ℕ) (xs : List ℕ) → drop (min n (length xs)) xs ≡ drop n xs
drop_within n xs =
    elim (cases_lt n (length xs)) [
      | inl lt ↦ ap (λ (m : ℕ). drop m xs) (let e : min n (length xs) ≡ n = omega (arith, lt) in e)
      | inr le ↦ drop_all (min n (length xs)) xs (omega (arith, le)) ∙ sym (drop_all n xs le)
    ]

-- of what is taken, the first bytes are those of the list
take_twice : (n m : ℕ) (xs : List ℕ) → n ≤ m → take n (take m xs) ≡ take n xs
take_twice zero m xs le = refl
take_twice (suc n) zero xs le = absurd (omega (arith, le))
take_twice (suc n) (suc m) [] le = refl
take_twice (suc n) (suc m) (x ∷ xs) le = ap (λ (ys : List ℕ). x ∷ ys) (take_twice n m xs (omega (arith, le)))

-- of bytes behind others as many are kept as there is room for
pub take_behind : (most left : ℕ) (kept piece : List ℕ) → length kept ≤ most
    → kept ++ take (min (min (length piece) left) (most - length kept)) piece ≡ take most (kept ++ take left piece)
take_behind most left kept piece few =
    let count : ℕ = min (min (length piece) left) (most - length kept) in
    let long : length (take left piece) ≡ min left (length piece) = length-take left piece in
    ap (λ (bytes : List ℕ). kept ++ bytes) (sym (take_twice count left piece (omega arith)))
    ∙ sym (take-append_room most count kept (take left piece) few (omega (arith, long)))
