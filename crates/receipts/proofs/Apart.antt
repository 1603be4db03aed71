-- What the first difference of two lists means.
use Rattle.std.proofs.Common.{◌≡◌, ℕ, zero, suc, Bool, true, false, List, [], ◌∷◌, ◌++◌, Option, None, Some, option_map, length, take, refl, sym, ap, ◌∙◌, arith}
use Rattle.std.specs.Bool.{Decides}
use Rattle.std.proofs.lemmas.Bool.{true≢false}
use Rattle.receipts.specs.Differences.{difference, StartApart, IsFirstDifference, IsProperPrefix}

-- lists that differ nowhere are one
pub same_lists_from : {X : Type 0} (same : X → X → Bool) → ((x y : X) → Decides (same x y) (x ≡ y)) → (xs ys : List X) → difference same xs ys ≡ None → xs ≡ ys
same_lists_from same decides [] [] h = refl
same_lists_from same decides [] (y ∷ ys) h = absurd cc
same_lists_from same decides (x ∷ xs) [] h = absurd cc
same_lists_from {X} same decides (x ∷ xs) (y ∷ ys) h = go (same x y) refl (same_lists_from same decides xs ys)
  where
    rest : (o : Option ℕ) → option_map suc o ≡ None → o ≡ None
    rest None e = refl
    rest (Some k) e = absurd cc

    go : (b : Bool) → same x y ≡ b → (difference same xs ys ≡ None → xs ≡ ys) → x ∷ xs ≡ y ∷ ys
    go true e tails =
        let heads = (decides x y).0 e in
        ap (λ z. z ∷ xs) heads ∙ ap (λ zs. y ∷ zs) (tails (rest _ (rw e at h)))
    go false e tails = let none : ◌≡◌ {A = Option ℕ} (Some 0) None = rw e at h in absurd cc

at_start : {X : Type 0} (xs ys : List X) (at : ℕ) → ◌≡◌ {A = Option ℕ} (Some 0) (Some at) → StartApart xs ys → IsFirstDifference xs ys at
at_start xs ys zero h apart = record { within = omega arith; within_other = omega arith; agree = refl; apart = apart }
at_start xs ys (suc at) h apart = let e : 0 ≡ suc at = cc in absurd (omega (arith, e))

after_one : {X : Type 0} (x y : X) (xs ys : List X) (at : ℕ) → x ≡ y → IsFirstDifference xs ys at → IsFirstDifference (x ∷ xs) (y ∷ ys) (suc at)
after_one x y xs ys at same d = record {
  within = omega (arith, d.within);
  within_other = omega (arith, d.within_other);
  agree = ap (λ z. z ∷ take at xs) same ∙ ap (λ zs. y ∷ zs) d.agree;
  apart = d.apart;
}

pub first_difference : {X : Type 0} (same : X → X → Bool) → ((x y : X) → Decides (same x y) (x ≡ y)) → (xs ys : List X) (at : ℕ) → difference same xs ys ≡ Some at → IsFirstDifference xs ys at
first_difference same decides [] [] at h = absurd cc
first_difference same decides [] (y ∷ ys) at h = at_start _ _ at h tt
first_difference same decides (x ∷ xs) [] at h = at_start _ _ at h tt
first_difference {X} same decides (x ∷ xs) (y ∷ ys) at h = go (same x y) refl (first_difference same decides xs ys)
  where
    more : x ≡ y → ((at : ℕ) → difference same xs ys ≡ Some at → IsFirstDifference xs ys at) → (o : Option ℕ) (at : ℕ) → difference same xs ys ≡ o → option_map suc o ≡ Some at → IsFirstDifference (x ∷ xs) (y ∷ ys) at
    more one tails None at is e = absurd cc
    more one tails (Some k) zero is e = let n : suc k ≡ 0 = cc in absurd (omega (arith, n))
    more one tails (Some k) (suc at) is e = let n : suc k ≡ suc at = cc in let m : k ≡ at = omega (arith, n) in after_one x y xs ys at one (tails at (is ∙ ap Some m))

    go : (b : Bool) → same x y ≡ b → ((at : ℕ) → difference same xs ys ≡ Some at → IsFirstDifference xs ys at) → IsFirstDifference (x ∷ xs) (y ∷ ys) at
    go true e tails = more ((decides x y).0 e) tails _ at refl (rw e at h)
    go false e tails = at_start _ _ at (rw e at h) (λ one. let t : true ≡ false = sym ((decides x y).1 one) ∙ e in true≢false t)

prefix_more : (x y : ℕ) (xs ys : List ℕ) → x ≡ y → IsProperPrefix xs ys → IsProperPrefix (x ∷ xs) (y ∷ ys)
prefix_more x y xs ys same p = (p.0, (p.1.0, ap (λ z. z ∷ ys) (sym same) ∙ ap (λ zs. x ∷ zs) p.1.1))

-- where the first list ends there, it begins the other
pub begins : (xs ys : List ℕ) → IsFirstDifference xs ys (length xs) → IsProperPrefix xs ys
begins [] [] d = absurd d.apart
begins [] (y ∷ ys) d = (y, (ys, refl))
begins (x ∷ xs) [] d = let n = d.within_other in absurd (omega (arith, n))
begins (x ∷ xs) (y ∷ ys) d =
    let agree : x ∷ take (length xs) xs ≡ y ∷ take (length xs) ys = d.agree in
    let tails : take (length xs) xs ≡ take (length xs) ys = cc in
    let heads : x ≡ y = cc in
    prefix_more x y xs ys heads (begins xs ys (record { within = omega arith; within_other = omega (arith, d.within_other); agree = tails; apart = d.apart }))

-- and only there
pub begins_there : (xs rest : List ℕ) (next at : ℕ) → IsFirstDifference xs (xs ++ next ∷ rest) at → at ≡ length xs
begins_there [] rest next at d = omega (arith, d.within)
begins_there (x ∷ xs) rest next zero d = absurd (d.apart refl)
begins_there (x ∷ xs) rest next (suc at) d =
    let agree : x ∷ take at xs ≡ x ∷ take at (xs ++ next ∷ rest) = d.agree in
    let tails : take at xs ≡ take at (xs ++ next ∷ rest) = cc in
    let there = begins_there xs rest next at (record { within = omega (arith, d.within); within_other = omega (arith, d.within_other); agree = tails; apart = d.apart }) in
    ap suc there
