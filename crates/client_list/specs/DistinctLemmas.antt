-- Lists of numbers in which none comes twice.
use Rattle.std.proofs.Common.{◌≡◌, ◌≢◌, ℕ, List, [], ◌∷◌, ◌++◌, get_or, false, subst, sym, ◌∙◌, inl, inr, arith, Contains, eqb}
use Rattle.std.specs.List.{IsDistinct}
use Rattle.std.proofs.lemmas.Bool.{eqb-false, ne_eqb}
use Rattle.std.proofs.lemmas.Map.Keys.{IsDistinct-head, IsDistinct-tail, IsDistinct-cons}
use Rattle.std.proofs.lemmas.List.Elements.{All-from_recursion, recursion_from_All, All-contains_itself, Contains-append_left, Contains-append_right, Contains-append_cases}
use Rattle.slab.proofs.SlabLemmas.{Contains-cons, Contains-cons_cases}

pub apart_from_first : (x : ℕ) (xs : List ℕ) → IsDistinct eqb (x ∷ xs) → (y : ℕ) → Contains xs y → y ≢ x
apart_from_first x xs distinct y there = λ same. eqb-false x y (subst (λ (z : ℕ). eqb x z ≡ false) there.2 (All-from_recursion (λ z. eqb x z ≡ false) xs (IsDistinct-head eqb x xs distinct) there.0 y there.1)) (sym same)

pub distinct_cons : (x : ℕ) (xs : List ℕ) → ((y : ℕ) → Contains xs y → y ≢ x) → IsDistinct eqb xs → IsDistinct eqb (x ∷ xs)
distinct_cons x xs apart distinct =
    IsDistinct-cons eqb x xs
    (recursion_from_All (λ z. eqb x z ≡ false) xs (λ k d within. ne_eqb x (get_or xs k d) (λ same. apart (get_or xs k d) (All-contains_itself xs k d within) (sym same))))
    distinct

pub distinct_none : IsDistinct eqb []
unfolding IsDistinct
distinct_none = tt

pub distinct_left : (xs ys : List ℕ) → IsDistinct eqb (xs ++ ys) → IsDistinct eqb xs
distinct_left [] ys distinct = distinct_none
distinct_left (x ∷ xs) ys distinct =
    distinct_cons x xs (λ y there. apart_from_first x (xs ++ ys) distinct y (Contains-append_left xs ys y there)) (distinct_left xs ys (IsDistinct-tail eqb x (xs ++ ys) distinct))

pub distinct_right : (xs ys : List ℕ) → IsDistinct eqb (xs ++ ys) → IsDistinct eqb ys
distinct_right [] ys distinct = distinct
distinct_right (x ∷ xs) ys distinct = distinct_right xs ys (IsDistinct-tail eqb x (xs ++ ys) distinct)

pub distinct_between : (xs ys : List ℕ) → IsDistinct eqb (xs ++ ys) → (p q : ℕ) → Contains xs p → Contains ys q → q ≢ p
distinct_between [] ys distinct p q left right = absurd (omega (arith, left.1))
distinct_between (x ∷ xs) ys distinct p q left right =
    elim (Contains-cons_cases x p xs left) [
      | inl same ↦ λ equal. apart_from_first x (xs ++ ys) distinct q (Contains-append_right xs ys q right) (equal ∙ sym same)
      | inr later ↦ distinct_between xs ys (IsDistinct-tail eqb x (xs ++ ys) distinct) p q later right
    ]

-- what is in a list without one element is in the list
contains_without : (xs : List ℕ) (y : ℕ) (ys : List ℕ) (z : ℕ) → Contains (xs ++ ys) z → Contains (xs ++ y ∷ ys) z
contains_without xs y ys z there =
    elim (Contains-append_cases xs ys z there) [
      | inl left ↦ Contains-append_left xs (y ∷ ys) z left
      | inr right ↦ Contains-append_right xs (y ∷ ys) z (Contains-cons y z ys right)
    ]

pub distinct_without : (xs : List ℕ) (y : ℕ) (ys : List ℕ) → IsDistinct eqb (xs ++ y ∷ ys) → IsDistinct eqb (xs ++ ys)
distinct_without [] y ys distinct = IsDistinct-tail eqb y ys distinct
distinct_without (x ∷ xs) y ys distinct =
    distinct_cons x (xs ++ ys) (λ z there. apart_from_first x (xs ++ y ∷ ys) distinct z (contains_without xs y ys z there)) (distinct_without xs y ys (IsDistinct-tail eqb x (xs ++ y ∷ ys) distinct))

pub distinct_push : (xs : List ℕ) (y : ℕ) → (Contains xs y → ⊥) → IsDistinct eqb xs → IsDistinct eqb (xs ++ y ∷ [])
distinct_push [] y free distinct = distinct_cons y [] (λ z there. absurd (omega (arith, there.1))) distinct_none
distinct_push (x ∷ xs) y free distinct =
    distinct_cons x (xs ++ y ∷ [])
    (λ z there. elim (Contains-append_cases xs (y ∷ []) z there) [
      | inl left ↦ apart_from_first x xs distinct z left
      | inr right ↦ elim (Contains-cons_cases y z [] right) [
        | inl same ↦ λ equal. free (0, omega arith, sym (same ∙ equal))
        | inr none ↦ absurd (omega (arith, none.1))
      ]
    ])
    (distinct_push xs y (λ there. free (Contains-cons x y xs there)) (IsDistinct-tail eqb x xs distinct))
