-- What holds of each element of a list.
use Rattle.std.proofs.Common.{◌≡◌, ℕ, zero, suc, ◌<◌, List, length, get_or, arith, [], ◌∷◌, ◌++◌, map, refl, subst, sym, ap, Contains, ◌⊎◌, inl, inr, Option, Some}
use Rattle.std.specs.List.{last_or}
use Rattle.std.proofs.lemmas.List.{map-append}
use Rattle.std.proofs.lemmas.List.Elements.{Contains-append_right}
use Rattle.span_arena.specs.DistinctLemmas.{here}
use Rattle.region_bands.specs.Held.{Each}

module _ {X : Type 0} where
  pub each_join : (P : X → Type 0) (xs ys : List X) → Each P xs → Each P ys → Each P (xs ++ ys)
  each_join P [] ys left right = right
  each_join P (x ∷ xs) ys left right = (left.0, each_join P xs ys left.1 right)

  pub each_left : (P : X → Type 0) (xs ys : List X) → Each P (xs ++ ys) → Each P xs
  each_left P [] ys all = tt
  each_left P (x ∷ xs) ys all = (all.0, each_left P xs ys all.1)

  pub each_right : (P : X → Type 0) (xs ys : List X) → Each P (xs ++ ys) → Each P ys
  each_right P [] ys all = all
  each_right P (x ∷ xs) ys all = each_right P xs ys all.1

  pub each_weaker : (P Q : X → Type 0) (xs : List X) → ((front : List X) (x : X) (back : List X) → xs ≡ front ++ x ∷ back → P x → Q x) → Each P xs → Each Q xs
  each_weaker P Q [] step all = tt
  each_weaker P Q (x ∷ xs) step all = (step [] x xs refl all.0, each_weaker P Q xs (λ front y back is. step (x ∷ front) y back (ap (λ (l : List X). x ∷ l) is)) all.1)

  -- what a function gives for an element is among what it gives for all
  pub contains_mapped : (f : X → ℕ) (xs front : List X) (x : X) (back : List X) → xs ≡ front ++ x ∷ back → Contains (map f xs) (f x)
  contains_mapped f xs front x back is =
      subst (λ (l : List X). Contains (map f l) (f x)) (sym is)
      (subst (λ (l : List ℕ). Contains l (f x)) (sym (map-append f front (x ∷ back))) (Contains-append_right (map f front) (f x ∷ map f back) (f x) (here (f x) (map f back))))

  -- an element that moves from the second list to the first
  pub map_moved : {Y : Type 0} (f : X → Y) (xs : List X) (x : X) (ys : List X) → map f (xs ++ x ∷ []) ++ map f ys ≡ map f xs ++ f x ∷ map f ys
  map_moved f [] x ys = refl
  map_moved f (z ∷ xs) x ys = ap (λ l. f z ∷ l) (map_moved f xs x ys)

  -- a list is empty or has a last element
  pub last_cases : (xs : List X) → (xs ≡ []) ⊎ ((front : List X) × (x : X) × (xs ≡ front ++ x ∷ []))
  last_cases [] = inl refl
  last_cases (x ∷ xs) =
      elim (last_cases xs) [
        | inl none ↦ inr ([], x, ap (λ (l : List X). x ∷ l) none)
        | inr some ↦ inr (x ∷ some.0, some.1, ap (λ (l : List X). x ∷ l) some.2)
      ]

  pub last_or_last : (o : Option X) (front : List X) (x : X) → last_or o (front ++ x ∷ []) ≡ Some x
  last_or_last o [] x = refl
  last_or_last o (y ∷ front) x = last_or_last (Some y) front x

pub later : (x y : ℕ) (xs : List ℕ) → Contains xs y → Contains (x ∷ xs) y
later x y xs there = (suc there.0, omega (arith, there.1), there.2)

pub cons_cases : (x y : ℕ) (xs : List ℕ) → Contains (x ∷ xs) y → (x ≡ y) ⊎ Contains xs y
cons_cases x y xs there = by_index there.0 there.1 there.2
  where
    by_index : (k : ℕ) → k < suc (length xs) → get_or (x ∷ xs) k y ≡ y → (x ≡ y) ⊎ Contains xs y
    by_index zero within found = inl found
    by_index (suc k) within found = inr (k, omega arith, found)

-- lists that end alike
pub last_same : {X : Type 0} (xs : List X) (x : X) (ys : List X) (y : X) → xs ++ x ∷ [] ≡ ys ++ y ∷ [] → (xs ≡ ys) × (x ≡ y)
last_same [] x [] y is = (refl, cc)
last_same [] x (z ∷ []) y is = absurd (cc)
last_same [] x (z ∷ w ∷ ys) y is = absurd (cc)
last_same (z ∷ []) x [] y is = absurd (cc)
last_same (z ∷ w ∷ xs) x [] y is = absurd (cc)
last_same (z ∷ xs) x (w ∷ ys) y is =
    let more = last_same xs x ys y (cc) in
    let tails = more.0 in
    (cc, more.1)
