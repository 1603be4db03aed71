-- Lists of keys in which none comes twice.
use Rattle.std.proofs.Common.{◌≡◌, ◌≢◌, ℕ, ◌<◌, ◌≤◌, List, [], ◌∷◌, ◌++◌, get_or, length, false, refl, subst, sym, ap, ◌∙◌, inl, inr, arith, Contains, eqb}
use Rattle.std.specs.List.{IsDistinct}
use Rattle.std.proofs.lemmas.Bool.{eqb-false, eqb-true, ne_eqb}
use Rattle.std.proofs.lemmas.Map.Keys.{IsDistinct-head, IsDistinct-tail, IsDistinct-cons}
use Rattle.std.proofs.lemmas.Map.Steps.{length-le_from_distinct_below}
use Rattle.std.proofs.lemmas.Map.Views.{Contains-from_any}
use Rattle.std.proofs.lemmas.List.Elements.{All-from_recursion, recursion_from_All, All-contains_itself, Contains-append_left, Contains-append_right, Contains-append_cases}
use Rattle.slab.proofs.SlabLemmas.{Contains-cons, Contains-cons_cases}
use Rattle.span_arena.specs.Arena.{last_from}

pub here : (x : ℕ) (xs : List ℕ) → Contains (x ∷ xs) x
here x xs = (0, omega arith, refl)

pub not_in_none : (x : ℕ) → Contains [] x → ⊥
not_in_none x there = omega (arith, there.1)

pub apart_from_first : (x : ℕ) (xs : List ℕ) → IsDistinct eqb (x ∷ xs) → (y : ℕ) → Contains xs y → y ≢ x
apart_from_first x xs distinct y there = λ same. eqb-false x y (subst (λ (z : ℕ). eqb x z ≡ false) there.2 (All-from_recursion (λ z. eqb x z ≡ false) xs (IsDistinct-head eqb x xs distinct) there.0 y there.1)) (sym same)

pub distinct_cons : (x : ℕ) (xs : List ℕ) → ((y : ℕ) → Contains xs y → y ≢ x) → IsDistinct eqb xs → IsDistinct eqb (x ∷ xs)
distinct_cons x xs apart distinct =
    IsDistinct-cons eqb x xs
    (recursion_from_All (λ z. eqb x z ≡ false) xs (λ k d within. ne_eqb x (get_or xs k d) (λ same. apart (get_or xs k d) (All-contains_itself xs k d within) (sym same))))
    distinct

pub distinct_none : IsDistinct eqb []
unfolding IsDistinct
distinct_none = tt

pub distinct_right : (xs ys : List ℕ) → IsDistinct eqb (xs ++ ys) → IsDistinct eqb ys
distinct_right [] ys distinct = distinct
distinct_right (x ∷ xs) ys distinct = distinct_right xs ys (IsDistinct-tail eqb x (xs ++ ys) distinct)

pub distinct_left : (xs ys : List ℕ) → IsDistinct eqb (xs ++ ys) → IsDistinct eqb xs
distinct_left [] ys distinct = distinct_none
distinct_left (x ∷ xs) ys distinct =
    distinct_cons x xs (λ y there. apart_from_first x (xs ++ ys) distinct y (Contains-append_left xs ys y there)) (distinct_left xs ys (IsDistinct-tail eqb x (xs ++ ys) distinct))

pub distinct_between : (xs ys : List ℕ) → IsDistinct eqb (xs ++ ys) → (p q : ℕ) → Contains xs p → Contains ys q → q ≢ p
distinct_between [] ys distinct p q left right = absurd (not_in_none p left)
distinct_between (x ∷ xs) ys distinct p q left right =
    elim (Contains-cons_cases x p xs left) [
      | inl same ↦ λ equal. apart_from_first x (xs ++ ys) distinct q (Contains-append_right xs ys q right) (equal ∙ sym same)
      | inr later ↦ distinct_between xs ys (IsDistinct-tail eqb x (xs ++ ys) distinct) p q later right
    ]

-- what is in a list without one element is in the list
pub contains_without : (xs : List ℕ) (y : ℕ) (ys : List ℕ) (z : ℕ) → Contains (xs ++ ys) z → Contains (xs ++ y ∷ ys) z
contains_without xs y ys z there =
    elim (Contains-append_cases xs ys z there) [
      | inl left ↦ Contains-append_left xs (y ∷ ys) z left
      | inr right ↦ Contains-append_right xs (y ∷ ys) z (Contains-cons y z ys right)
    ]

pub distinct_without : (xs : List ℕ) (y : ℕ) (ys : List ℕ) → IsDistinct eqb (xs ++ y ∷ ys) → IsDistinct eqb (xs ++ ys)
distinct_without [] y ys distinct = IsDistinct-tail eqb y ys distinct
distinct_without (x ∷ xs) y ys distinct =
    distinct_cons x (xs ++ ys) (λ z there. apart_from_first x (xs ++ y ∷ ys) distinct z (contains_without xs y ys z there)) (distinct_without xs y ys (IsDistinct-tail eqb x (xs ++ y ∷ ys) distinct))

pub distinct_with : (xs : List ℕ) (y : ℕ) (ys : List ℕ) → (Contains (xs ++ ys) y → ⊥) → IsDistinct eqb (xs ++ ys) → IsDistinct eqb (xs ++ y ∷ ys)
distinct_with [] y ys free distinct = distinct_cons y ys (λ z there same. free (subst (Contains ys) same there)) distinct
distinct_with (x ∷ xs) y ys free distinct =
    distinct_cons x (xs ++ y ∷ ys)
    (λ z there. elim (Contains-append_cases xs (y ∷ ys) z there) [
      | inl left ↦ apart_from_first x (xs ++ ys) distinct z (Contains-append_left xs ys z left)
      | inr right ↦ elim (Contains-cons_cases y z ys right) [
        | inl same ↦ λ equal. free (0, omega arith, sym (same ∙ equal))
        | inr later ↦ apart_from_first x (xs ++ ys) distinct z (Contains-append_right xs ys z later)
      ]
    ])
    (distinct_with xs y ys (λ there. free (Contains-cons x y (xs ++ ys) there)) (IsDistinct-tail eqb x (xs ++ ys) distinct))

pub distinct_push : (xs : List ℕ) (y : ℕ) → ((x : ℕ) → Contains xs x → x ≢ y) → IsDistinct eqb xs → IsDistinct eqb (xs ++ y ∷ [])
distinct_push [] y free distinct = distinct_cons y [] (λ z there. absurd (not_in_none z there)) distinct_none
distinct_push (x ∷ xs) y free distinct =
    distinct_cons x (xs ++ y ∷ [])
    (λ z there. elim (Contains-append_cases xs (y ∷ []) z there) [
      | inl left ↦ apart_from_first x xs distinct z left
      | inr right ↦ elim (Contains-cons_cases y z [] right) [
        | inl same ↦ λ equal. free x (here x xs) (sym equal ∙ sym same)
        | inr none ↦ absurd (not_in_none z none)
      ]
    ])
    (distinct_push xs y (λ z there. free z (Contains-cons x z xs there)) (IsDistinct-tail eqb x xs distinct))

-- the first of a list, or what comes behind it
abbrev pub first_or : List ℕ → ℕ → ℕ
first_or [] to = to
first_or (x ∷ xs) to = x

pub last_there : (x : ℕ) (xs : List ℕ) → Contains (x ∷ xs) (last_from x xs)
last_there x [] = here x []
last_there x (y ∷ ys) = Contains-cons x (last_from y ys) (y ∷ ys) (last_there y ys)

pub first_there : (xs : List ℕ) (x : ℕ) → Contains (xs ++ x ∷ []) (first_or xs x)
first_there [] x = here x []
first_there (y ∷ ys) x = here y (ys ++ x ∷ [])

-- keys below a bound, none twice, are at most as many
pub few_below : (xs : List ℕ) (n : ℕ) → IsDistinct eqb xs → ((x : ℕ) → Contains xs x → x < n) → length xs ≤ n
few_below xs n distinct below = length-le_from_distinct_below xs n distinct (λ q found. below q (Contains-from_any (λ x y e. eqb-true x y e) q xs found))

-- what is in a list and isn't one element is in the list without it
pub contains_away : (xs : List ℕ) (y : ℕ) (ys : List ℕ) (z : ℕ) → z ≢ y → Contains (xs ++ y ∷ ys) z → Contains (xs ++ ys) z
contains_away xs y ys z differs there =
    elim (Contains-append_cases xs (y ∷ ys) z there) [
      | inl left ↦ Contains-append_left xs ys z left
      | inr right ↦ elim (Contains-cons_cases y z ys right) [
        | inl same ↦ absurd (differs (sym same))
        | inr later ↦ Contains-append_right xs ys z later
      ]
    ]

-- what is in a list has a place in it
pub split_at : (xs : List ℕ) (x : ℕ) → Contains xs x → (front : List ℕ) × (back : List ℕ) × (xs ≡ front ++ x ∷ back)
split_at [] x there = absurd (not_in_none x there)
split_at (y ∷ ys) x there =
    elim (Contains-cons_cases y x ys there) [
      | inl same ↦ ([], ys, ap (λ (k : ℕ). k ∷ ys) same)
      | inr later ↦ let rest = split_at ys x later in (y ∷ rest.0, rest.1, ap (λ (l : List ℕ). y ∷ l) rest.2)
    ]
