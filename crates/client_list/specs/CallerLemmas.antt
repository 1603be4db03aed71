-- For callers whose own words see the viewers as pairs: a value that was written, and what each value stands for.
use Rattle.std.proofs.Common.{◌≡◌, ◌≢◌, ℕ, zero, suc, List, [], ◌∷◌, map, set, cond, Some, refl, sym, ap, ◌∙◌, inl, inr, arith, Contains, eqb}
use Rattle.std.specs.Prelude.{slice_get}
use Rattle.std.specs.List.{IsDistinct, find}
use Rattle.std.specs.Map.{keys_of, lookup}
use Rattle.std.specs.Option.{option_map}
use Rattle.std.proofs.lemmas.Bool.{eq-eqb, ne_eqb, cases_eq}
use Rattle.std.proofs.lemmas.Map.Keys.{IsDistinct-tail}
use Rattle.std.proofs.lemmas.Option.{same_Some}
use Rattle.slab.proofs.SlabLemmas.{Contains-cons}
use Rattle.client_list.specs.Connected.{index_of, set_value_at}
use Rattle.client_list.specs.DistinctLemmas.{apart_from_first}

module _ {T : Type 0} where
  -- as std's `set`
  pub set_value_at-set : (pairs : List (ℕ × T)) (i : ℕ) (pair : ℕ × T) (w : T) → slice_get pairs i ≡ Some pair → set_value_at pairs i w ≡ set pairs i (pair.0, w)
  set_value_at-set [] i pair w found = refl
  set_value_at-set (p ∷ rest) zero pair w found = ap (λ (x : ℕ × T). (x.0, w) ∷ rest) (same_Some p pair found)
  set_value_at-set (p ∷ rest) (suc i) pair w found = ap (λ (l : List (ℕ × T)). p ∷ l) (set_value_at-set rest i pair w found)

  pub keys-set_value_at : (pairs : List (ℕ × T)) (i : ℕ) (w : T) → keys_of (set_value_at pairs i w) ≡ keys_of pairs
  keys-set_value_at [] i w = refl
  keys-set_value_at (p ∷ rest) zero w = refl
  keys-set_value_at (p ∷ rest) (suc i) w = ap (λ (l : List ℕ). p.0 ∷ l) (keys-set_value_at rest i w)

  -- the pair with a number, with another value
  abbrev pub with_number : ℕ → T → ℕ × T → ℕ × T
  with_number number w pair = cond (eqb pair.0 number) (number, w) pair

  others_stay : (number : ℕ) (w : T) (rest : List (ℕ × T)) → ((n : ℕ) → Contains (keys_of rest) n → n ≢ number) → map (with_number number w) rest ≡ rest
  others_stay number w [] apart = refl
  others_stay number w (p ∷ rest) apart =
      rw (ne_eqb p.0 number (apart p.0 (0, omega arith, refl)))
      (ap (λ (l : List (ℕ × T)). p ∷ l) (others_stay number w rest (λ n there. apart n (Contains-cons p.0 n (keys_of rest) there))))

  -- a write to the value of a number is a change of the one pair that has the number
  pub set-number : (pairs : List (ℕ × T)) (number : ℕ) (w : T) → IsDistinct eqb (keys_of pairs) → set_value_at pairs (index_of (keys_of pairs) number) w ≡ map (with_number number w) pairs
  set-number [] number w distinct = refl
  set-number (p ∷ rest) number w distinct =
      elim (cases_eq p.0 number) [
        | inl same ↦
            rw (eq-eqb p.0 number same)
            (
            ap (λ (n : ℕ). (n, w) ∷ rest) same
            ∙ ap (λ (l : List (ℕ × T)). (number, w) ∷ l) (sym (others_stay number w rest (λ n there equal. apart_from_first p.0 (keys_of rest) distinct n there (equal ∙ sym same))))
            )
        | inr differs ↦ rw (ne_eqb p.0 number differs) (ap (λ (l : List (ℕ × T)). p ∷ l) (set-number rest number w (IsDistinct-tail eqb p.0 (keys_of rest) distinct)))
      ]

  -- the pair with a number, and its value
  pub find-lookup : (pairs : List (ℕ × T)) (number : ℕ) → find (λ pair. eqb pair.0 number) pairs ≡ option_map (λ value. (number, value)) (lookup (λ n. eqb n number) pairs)
  find-lookup [] number = refl
  find-lookup (p ∷ rest) number =
      elim (cases_eq p.0 number) [
        | inl same ↦ rw (eq-eqb p.0 number same) (ap (λ (n : ℕ). Some (n, p.1)) same)
        | inr differs ↦ rw (ne_eqb p.0 number differs) (find-lookup rest number)
      ]

module _ {T U : Type 0} (h : T → U) where
  -- the pairs of what each value stands for
  abbrev pub mapped : List (ℕ × T) → List (ℕ × U)
  mapped pairs = map (λ pair. (pair.0, h pair.1)) pairs

  pub keys-mapped : (pairs : List (ℕ × T)) → keys_of (mapped pairs) ≡ keys_of pairs
  keys-mapped [] = refl
  keys-mapped (p ∷ rest) = ap (λ (l : List ℕ). p.0 ∷ l) (keys-mapped rest)

  pub mapped-set_value_at : (pairs : List (ℕ × T)) (i : ℕ) (w : T) → mapped (set_value_at pairs i w) ≡ set_value_at (mapped pairs) i (h w)
  mapped-set_value_at [] i w = refl
  mapped-set_value_at (p ∷ rest) zero w = refl
  mapped-set_value_at (p ∷ rest) (suc i) w = ap (λ (l : List (ℕ × U)). (p.0, h p.1) ∷ l) (mapped-set_value_at rest i w)

  pub lookup-mapped : (pairs : List (ℕ × T)) (number : ℕ) → lookup (λ n. eqb n number) (mapped pairs) ≡ option_map h (lookup (λ n. eqb n number) pairs)
  lookup-mapped [] number = refl
  lookup-mapped (p ∷ rest) number =
      elim (cases_eq p.0 number) [
        | inl same ↦ rw (eq-eqb p.0 number same)
        | inr differs ↦ rw (ne_eqb p.0 number differs) (lookup-mapped rest number)
      ]
