-- The map from numbers to positions: what a look-up finds, and what the map has after a change of the list.
use Rattle.std.proofs.Common.{◌≡◌, ◌≢◌, ℕ, List, [], ◌∷◌, ◌++◌, length, cond, Option, Some, None, sym, ap, ◌∙◌, inl, inr, arith, Contains, eqb}
use Rattle.std.specs.Prelude.{slice_get, MatchOption}
use Rattle.std.specs.List.{IsDistinct, remove}
use Rattle.std.specs.Map.{keys_of}
use Rattle.std.specs.HashMap.{HashMap}
use Rattle.std.specs.HashMap as hash
use Rattle.std.proofs.lemmas.Bool.{eq-eqb, ne_eqb, cases_eq, cases_lt}
use Rattle.std.proofs.lemmas.List.{length-map, map-append}
use Rattle.std.proofs.lemmas.Map.Keys.{IsDistinct-tail}
use Rattle.std.proofs.lemmas.Option.{slice_get-get_or, slice_get-map, slice_get_past, slice_get_within}
use Rattle.slab.proofs.SlabLemmas.{Contains-cons}
use Rattle.client_list.specs.Connected.{Connected, index_of, index_of_number, value_of, with_value, IsListed, IsPositionOf}
use Rattle.client_list.specs.Links.{IsByNumber}
use Rattle.client_list.specs.CallerLemmas.{keys-set_value_at}
use Rattle.client_list.specs.DistinctLemmas.{apart_from_first}
use Rattle.client_list.specs.IndexLemmas.{index_here, index_there, index_at, index_below, index_past, contains_at}
use Rattle.client_list.proofs.NumberLemmas.{number_past}
use Rattle.client_list.proofs.RemovalLemmas.{map-remove}

-- ---- the position at which a list has a number

-- with one more number, at a position behind all others
read-push : (numbers positions : List ℕ) (number position n : ℕ) → length numbers ≡ length positions → (Contains numbers number → ⊥) → slice_get (positions ++ position ∷ []) (index_of (numbers ++ number ∷ []) n) ≡ cond (eqb number n) (Some position) (slice_get positions (index_of numbers n))
read-push [] [] number position n long free =
    elim (cases_eq number n) [
      | inl same ↦ rw (eq-eqb number n same)
      | inr differs ↦ rw (ne_eqb number n differs)
    ]
read-push [] (p ∷ ps) number position n long free = absurd (omega (arith, long))
read-push (m ∷ ns) [] number position n long free = absurd (omega (arith, long))
read-push (m ∷ ns) (p ∷ ps) number position n long free =
    elim (cases_eq m n) [
      | inl same ↦
          let apart : number ≢ n = λ is. free (0, omega arith, same ∙ sym is) in
          ap (slice_get (p ∷ (ps ++ position ∷ []))) (index_here n m (ns ++ number ∷ []) same)
          ∙ sym (ap (λ b. cond b (Some position) (slice_get (p ∷ ps) (index_of (m ∷ ns) n))) (ne_eqb number n apart) ∙ ap (slice_get (p ∷ ps)) (index_here n m ns same))
      | inr differs ↦
          ap (slice_get (p ∷ (ps ++ position ∷ []))) (index_there n m (ns ++ number ∷ []) differs)
          ∙ read-push ns ps number position n (omega (arith, long)) (λ there. free (Contains-cons m number ns there))
          ∙ sym (ap (λ i. cond (eqb number n) (Some position) (slice_get (p ∷ ps) i)) (index_there n m ns differs))
    ]

-- without a number and its position
read-remove : (numbers positions : List ℕ) (number n : ℕ) → IsDistinct eqb numbers → length numbers ≡ length positions → slice_get (remove positions (index_of numbers number)) (index_of (remove numbers (index_of numbers number)) n) ≡ cond (eqb number n) None (slice_get positions (index_of numbers n))
read-remove [] [] number n distinct long =
    elim (cases_eq number n) [
      | inl same ↦ rw (eq-eqb number n same)
      | inr differs ↦ rw (ne_eqb number n differs)
    ]
read-remove [] (p ∷ ps) number n distinct long = absurd (omega (arith, long))
read-remove (m ∷ ns) [] number n distinct long = absurd (omega (arith, long))
read-remove (m ∷ ns) (p ∷ ps) number n distinct long =
    elim (cases_eq m number) [
      | inl first ↦
          ap (λ i. slice_get (remove (p ∷ ps) i) (index_of (remove (m ∷ ns) i) n)) (index_here number m ns first)
          ∙ elim (cases_eq number n) [
            | inl same ↦
                let gone : index_of ns n ≡ length ns = index_past ns n (λ there. apart_from_first m ns distinct n there (sym (first ∙ same))) in
                slice_get_past ps (index_of ns n) (omega (arith, long, gone))
                ∙ sym (ap (λ b. cond b None (slice_get (p ∷ ps) (index_of (m ∷ ns) n))) (eq-eqb number n same))
            | inr differs ↦
                sym (
                ap (λ b. cond b None (slice_get (p ∷ ps) (index_of (m ∷ ns) n))) (ne_eqb number n differs)
                ∙ ap (slice_get (p ∷ ps)) (index_there n m ns (λ same. differs (sym first ∙ same)))
                )
          ]
      | inr later ↦
          ap (λ i. slice_get (remove (p ∷ ps) i) (index_of (remove (m ∷ ns) i) n)) (index_there number m ns later)
          ∙ elim (cases_eq m n) [
            | inl same ↦
                ap (slice_get (p ∷ remove ps (index_of ns number))) (index_here n m (remove ns (index_of ns number)) same)
                ∙ sym (
                ap (λ b. cond b None (slice_get (p ∷ ps) (index_of (m ∷ ns) n))) (ne_eqb number n (λ is. later (same ∙ sym is)))
                ∙ ap (slice_get (p ∷ ps)) (index_here n m ns same)
                )
            | inr differs ↦
                ap (slice_get (p ∷ remove ps (index_of ns number))) (index_there n m (remove ns (index_of ns number)) differs)
                ∙ read-remove ns ps number n (IsDistinct-tail eqb m ns distinct) (omega (arith, long))
                ∙ sym (ap (λ i. cond (eqb number n) None (slice_get (p ∷ ps) i)) (index_there n m ns differs))
          ]
    ]

module _ {T : Type 0} where
  numbers_long : (c : Connected T) → IsListed c → length (keys_of c.pairs) ≡ length c.positions
  numbers_long c listed = length-map c.pairs (λ pair. pair.0) ∙ listed.as_many

  slot_found : (c : Connected T) (number : ℕ) (o : Option ℕ) → IsListed c → o ≡ slice_get c.positions (index_of_number c number) → MatchOption o (value_of c number ≡ None) (IsPositionOf c number)
  slot_found c number None listed is =
      elim (cases_lt (index_of_number c number) (length c.positions)) [
        | inl below ↦ let there = slice_get-get_or c.positions (index_of_number c number) 0 below in absurd (cc)
        | inr past ↦ number_past c number (omega (arith, listed.as_many, past))
      ]
  slot_found c number (Some position) listed is =
      let i : ℕ = index_of_number c number in
      let at : index_of c.positions position ≡ i = index_at c.positions i position listed.positions (sym is) in
      let read = index_below (keys_of c.pairs) number (omega (arith, numbers_long c listed, slice_get_within c.positions i position (sym is))) in (
        contains_at c.positions i position (sym is),
        at,
        sym (slice_get-map (λ pair. pair.0) c.pairs (index_of c.positions position)) ∙ ap (slice_get (keys_of c.pairs)) at ∙ read,
      )

  module _ {S : Type 0} (by_number : HashMap ℕ ℕ S) (c : Connected T) (is : IsByNumber by_number c) where
    -- what a look-up of a number finds is the number's position
    pub found_by_number : (number : ℕ) (o : Option ℕ) → IsListed c → o ≡ hash.get eqb by_number number → MatchOption o (value_of c number ≡ None) (IsPositionOf c number)
    found_by_number number o listed found = slot_found c number o listed (found ∙ is number)

    -- another value of one viewer
    pub by_number-set : (i : ℕ) (w : T) → IsByNumber by_number (with_value c i w)
    by_number-set i w n = is n ∙ sym (ap (λ (numbers : List ℕ). slice_get c.positions (index_of numbers n)) (keys-set_value_at c.pairs i w))

    module _ (new : HashMap ℕ ℕ S) (d : Connected T) (listed : IsListed c) (number : ℕ) where
      -- one more viewer
      pub by_number-push : (value : T) (position : ℕ) → hash.Updates eqb by_number new number (Some position) → (Contains (keys_of c.pairs) number → ⊥) → d.pairs ≡ c.pairs ++ (number, value) ∷ [] → d.positions ≡ c.positions ++ position ∷ [] → IsByNumber new d
      by_number-push value position updates free pairs positions n =
          let numbers : keys_of d.pairs ≡ keys_of c.pairs ++ number ∷ [] = ap keys_of pairs ∙ map-append (λ pair. pair.0) c.pairs ((number, value) ∷ []) in
          updates.0 n
          ∙ ap (cond (eqb number n) (Some position)) (is n)
          ∙ sym (
          ap (λ (ns : List ℕ). slice_get d.positions (index_of ns n)) numbers
          ∙ ap (λ (ps : List ℕ). slice_get ps (index_of (keys_of c.pairs ++ number ∷ []) n)) positions
          ∙ read-push (keys_of c.pairs) c.positions number position n (numbers_long c listed) free
          )

      -- one viewer less
      pub by_number-remove : hash.Updates eqb by_number new number None → d.pairs ≡ remove c.pairs (index_of_number c number) → d.positions ≡ remove c.positions (index_of_number c number) → IsByNumber new d
      by_number-remove updates pairs positions n =
          let i : ℕ = index_of_number c number in
          let numbers : keys_of d.pairs ≡ remove (keys_of c.pairs) i = ap keys_of pairs ∙ map-remove (λ pair. pair.0) c.pairs i in
          updates.0 n
          ∙ ap (cond (eqb number n) None) (is n)
          ∙ sym (
          ap (λ (ns : List ℕ). slice_get d.positions (index_of ns n)) numbers
          ∙ ap (λ (ps : List ℕ). slice_get ps (index_of (remove (keys_of c.pairs) i) n)) positions
          ∙ read-remove (keys_of c.pairs) c.positions number n listed.numbers (numbers_long c listed)
          )
