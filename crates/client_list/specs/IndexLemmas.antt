-- Where a number comes first in a list.
use Rattle.std.proofs.Common.{◌≡◌, ◌≢◌, ℕ, zero, suc, ◌<◌, ◌≤◌, List, [], ◌∷◌, length, Some, refl, sym, ap, ◌∙◌, inl, inr, arith, Contains, eqb}
use Rattle.std.specs.Prelude.{slice_get}
use Rattle.std.specs.List.{IsDistinct}
use Rattle.std.proofs.lemmas.Bool.{eq-eqb, ne_eqb, cases_eq}
use Rattle.std.proofs.lemmas.Map.Keys.{IsDistinct-tail}
use Rattle.std.proofs.lemmas.Option.{slice_get_within, get_or_from_slice_get}
use Rattle.slab.proofs.SlabLemmas.{Contains-cons, Contains-cons_cases}
use Rattle.client_list.specs.Connected.{index_of}
use Rattle.client_list.specs.DistinctLemmas.{apart_from_first}

pub index_here : (x y : ℕ) (ys : List ℕ) → y ≡ x → index_of (y ∷ ys) x ≡ 0
index_here x y ys same = rw (eq-eqb y x same)

pub index_there : (x y : ℕ) (ys : List ℕ) → y ≢ x → index_of (y ∷ ys) x ≡ suc (index_of ys x)
index_there x y ys differs = rw (ne_eqb y x differs)

-- what is in a list and isn't its first element is among the others
pub among_others : (x y : ℕ) (ys : List ℕ) → y ≢ x → Contains (y ∷ ys) x → Contains ys x
among_others x y ys differs there = elim (Contains-cons_cases y x ys there) [ inl same ↦ absurd (differs same) | inr later ↦ later ]

pub contains_at : (xs : List ℕ) (i x : ℕ) → slice_get xs i ≡ Some x → Contains xs x
contains_at xs i x found = (i, slice_get_within xs i x found, get_or_from_slice_get xs i x x found)

pub index_within : (xs : List ℕ) (x : ℕ) → Contains xs x → index_of xs x < length xs
index_within [] x there = absurd (omega (arith, there.1))
index_within (y ∷ ys) x there =
    elim (cases_eq y x) [
      | inl same ↦ omega (arith, index_here x y ys same)
      | inr differs ↦ omega (arith, index_there x y ys differs, index_within ys x (among_others x y ys differs there))
    ]

pub index_past : (xs : List ℕ) (x : ℕ) → (Contains xs x → ⊥) → index_of xs x ≡ length xs
index_past [] x away = refl
index_past (y ∷ ys) x away =
    elim (cases_eq y x) [
      | inl same ↦ absurd (away (0, omega arith, same))
      | inr differs ↦ index_there x y ys differs ∙ ap suc (index_past ys x (λ there. away (Contains-cons y x ys there)))
    ]

pub index_read : (xs : List ℕ) (x : ℕ) → Contains xs x → slice_get xs (index_of xs x) ≡ Some x
index_read [] x there = absurd (omega (arith, there.1))
index_read (y ∷ ys) x there =
    elim (cases_eq y x) [
      | inl same ↦ ap (slice_get (y ∷ ys)) (index_here x y ys same) ∙ ap Some same
      | inr differs ↦ ap (slice_get (y ∷ ys)) (index_there x y ys differs) ∙ index_read ys x (among_others x y ys differs there)
    ]

pub index_at : (xs : List ℕ) (i x : ℕ) → IsDistinct eqb xs → slice_get xs i ≡ Some x → index_of xs x ≡ i
index_at [] i x distinct found = absurd (cc)
index_at (y ∷ ys) zero x distinct found = index_here x y ys (let e : Some y ≡ Some x = found in cc)
index_at (y ∷ ys) (suc i) x distinct found =
    let there : Contains ys x = contains_at ys i x found in
    index_there x y ys (λ same. apart_from_first y ys distinct x there (sym same)) ∙ ap suc (index_at ys i x (IsDistinct-tail eqb y ys distinct) found)

pub index_most : (xs : List ℕ) (x : ℕ) → index_of xs x ≤ length xs
index_most [] x = omega arith
index_most (y ∷ ys) x =
    elim (cases_eq y x) [
      | inl same ↦ omega (arith, index_here x y ys same)
      | inr differs ↦ omega (arith, index_there x y ys differs, index_most ys x)
    ]

-- a number that comes stands where it comes first
pub index_below : (xs : List ℕ) (x : ℕ) → index_of xs x < length xs → slice_get xs (index_of xs x) ≡ Some x
index_below [] x below = absurd (omega (arith, below))
index_below (y ∷ ys) x below =
    elim (cases_eq y x) [
      | inl same ↦ ap (slice_get (y ∷ ys)) (index_here x y ys same) ∙ ap Some same
      | inr differs ↦ ap (slice_get (y ∷ ys)) (index_there x y ys differs) ∙ index_below ys x (omega (arith, index_there x y ys differs, below))
    ]
