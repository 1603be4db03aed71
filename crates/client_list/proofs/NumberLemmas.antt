-- The viewer with a number.
use Rattle.std.proofs.Common.{◌≡◌, ◌≢◌, ℕ, ◌≤◌, List, [], ◌∷◌, length, Option, Some, None, refl, sym, ap, ◌∙◌, inl, inr, arith, Contains, eqb, not}
use Rattle.std.specs.Prelude.{slice_get, MatchOption, is_some, true, false}
use Rattle.std.specs.Option.{option_map}
use Rattle.std.specs.List.{IsDistinct, remove, filter}
use Rattle.std.proofs.lemmas.Map.Keys.{IsDistinct-tail}
use Rattle.slab.proofs.SlabLemmas.{Contains-cons}
use Rattle.std.specs.Map.{keys_of, lookup}
use Rattle.std.proofs.lemmas.Bool.{eq-eqb, ne_eqb, cases_eq}
use Rattle.std.proofs.lemmas.Option.{slice_get-map, slice_get_past}
use Rattle.client_list.specs.Connected.{Connected, index_of, index_of_number, value_of, value_at, number_at, pair_at, IsPosition, IsPositionOf, IsListed}
use Rattle.client_list.specs.IndexLemmas.{index_read, index_at}
use Rattle.client_list.specs.DistinctLemmas.{apart_from_first}

module _ {T : Type 0} where
  -- the value of a number is that of the pair where the number comes first
  pub lookup-index : (pairs : List (ℕ × T)) (number : ℕ) → lookup (λ n. eqb n number) pairs ≡ option_map (λ pair. pair.1) (slice_get pairs (index_of (keys_of pairs) number))
  lookup-index [] number = refl
  lookup-index (pair ∷ rest) number =
      elim (cases_eq pair.0 number) [
        | inl same ↦ rw (eq-eqb pair.0 number same)
        | inr differs ↦ rw (ne_eqb pair.0 number differs) (lookup-index rest number)
      ]

  -- a number that no viewer has
  pub number_past : (c : Connected T) (number : ℕ) → length c.pairs ≤ index_of_number c number → value_of c number ≡ None
  number_past c number past = lookup-index c.pairs number ∙ ap (option_map (λ pair. pair.1)) (slice_get_past c.pairs (index_of_number c number) past)

  -- the position of a viewer with a number is the number's
  pub position_numbered : (c : Connected T) (position number : ℕ) → IsListed c → IsPosition c position → number_at c position ≡ Some number → IsPositionOf c number position
  position_numbered c position number listed there has =
      let i : ℕ = index_of c.positions position in
      (there, sym (index_at (keys_of c.pairs) i number listed.numbers (slice_get-map (λ (pair : ℕ × T). pair.0) c.pairs i ∙ has)), has)

  -- and stands among the positions where the number stands
  pub position_read : (c : Connected T) (position number : ℕ) → IsPositionOf c number position → Some position ≡ slice_get c.positions (index_of_number c number)
  position_read c position number found = sym (index_read c.positions position found.0) ∙ ap (slice_get c.positions) found.1

  -- the value at a number's position is the number's
  pub value_found : (c : Connected T) (position number : ℕ) → IsPositionOf c number position → value_at c position ≡ value_of c number
  value_found c position number found = ap (λ (i : ℕ). option_map (λ (pair : ℕ × T). pair.1) (slice_get c.pairs i)) found.1 ∙ sym (lookup-index c.pairs number)

  -- a number that no viewer has isn't among the numbers
  number_absent : (c : Connected T) (number : ℕ) → value_of c number ≡ None → Contains (keys_of c.pairs) number → ⊥
  number_absent c number none there =
      let i : ℕ = index_of_number c number in
      let read : option_map (λ (pair : ℕ × T). pair.0) (slice_get c.pairs i) ≡ Some number = sym (slice_get-map (λ pair. pair.0) c.pairs i) ∙ index_read (keys_of c.pairs) number there in
      let gone : option_map (λ (pair : ℕ × T). pair.1) (slice_get c.pairs i) ≡ None = sym (lookup-index c.pairs number) ∙ none in
      both (slice_get c.pairs i) read gone
    where
      both : (o : Option (ℕ × T)) → option_map (λ (pair : ℕ × T). pair.0) o ≡ Some number → option_map (λ (pair : ℕ × T). pair.1) o ≡ None → ⊥
      both None read gone = absurd (cc)
      both (Some pair) read gone = absurd (cc)

  -- without the pair where a number comes first, the pairs are those with other numbers
  pub without-filter : (pairs : List (ℕ × T)) (number : ℕ) → IsDistinct eqb (keys_of pairs) → remove pairs (index_of (keys_of pairs) number) ≡ filter (λ pair. not (eqb pair.0 number)) pairs
  without-filter [] number distinct = refl
  without-filter (pair ∷ rest) number distinct =
      elim (cases_eq pair.0 number) [
        | inl same ↦ rw (eq-eqb pair.0 number same) (sym (all_others rest (λ n there. let apart = apart_from_first pair.0 (keys_of rest) distinct n there in λ equal. apart (equal ∙ sym same))))
        | inr differs ↦ rw (ne_eqb pair.0 number differs) (ap (λ (l : List (ℕ × T)). pair ∷ l) (without-filter rest number (IsDistinct-tail eqb pair.0 (keys_of rest) distinct)))
      ]
    where
      all_others : (rest : List (ℕ × T)) → ((n : ℕ) → Contains (keys_of rest) n → n ≢ number) → filter (λ pair. not (eqb pair.0 number)) rest ≡ rest
      all_others [] apart = refl
      all_others (pair ∷ rest) apart =
          rw (ne_eqb pair.0 number (apart pair.0 (0, omega arith, refl)))
          (ap (λ (l : List (ℕ × T)). pair ∷ l) (all_others rest (λ n there. apart n (Contains-cons pair.0 n (keys_of rest) there))))

  -- a number's position has a value
  pub position_value : (c : Connected T) (number position : ℕ) → IsPositionOf c number position → (value : T) × (value_of c number ≡ Some value)
  position_value c number position found = go (pair_at c position) refl found.2
    where
      go : (o : Option (ℕ × T)) → pair_at c position ≡ o → option_map (λ (pair : ℕ × T). pair.0) o ≡ Some number → (value : T) × (value_of c number ≡ Some value)
      go None is has = absurd (cc)
      go (Some pair) is has = (pair.1, sym (value_found c position number found) ∙ ap (option_map (λ (pair : ℕ × T). pair.1)) is)

  -- where a search finds no position, no viewer has the number
  pub not_found : (c : Connected T) (number : ℕ) (o : Option ℕ) → is_some o ≡ false → MatchOption o (value_of c number ≡ None) (IsPositionOf c number) → Contains (keys_of c.pairs) number → ⊥
  not_found c number None none found = number_absent c number found
  not_found c number (Some position) none found = absurd (cc)

  -- where it finds a position, one has it
  pub was_found : (c : Connected T) (number : ℕ) (o : Option ℕ) → is_some o ≡ true → MatchOption o (value_of c number ≡ None) (IsPositionOf c number) → (value : T) × (value_of c number ≡ Some value)
  was_found c number None some found = absurd (cc)
  was_found c number (Some position) some found = position_value c number position found
