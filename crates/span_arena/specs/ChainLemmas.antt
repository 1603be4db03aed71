-- Chains of nodes, whole and after a change.
use Rattle.std.proofs.Common.{◌≡◌, ◌≢◌, ℕ, List, [], ◌∷◌, ◌++◌, Some, sym, ap, ◌∙◌, inl, inr, Contains, eqb}
use Rattle.std.specs.List.{IsDistinct}
use Rattle.std.proofs.lemmas.Map.Keys.{IsDistinct-tail}
use Rattle.slab.proofs.SlabLemmas.{Contains-cons, Contains-cons_cases}
use Rattle.span_arena.specs.Arena.{last_from}
use Rattle.span_arena.specs.Links.{Nodes, list_in, next_in, previous_in, IsLinked, IsChain, IsRing}
use Rattle.span_arena.specs.DistinctLemmas.{here, not_in_none, apart_from_first, last_there, first_or}

module _ (nodes : Nodes) (list : ℕ) where
  -- a chain ends at each place on it, and another begins there
  pub chain_front : (from : ℕ) (front rest : List ℕ) (to : ℕ) → IsChain nodes list from (front ++ rest) to → IsChain nodes list from front (first_or rest to)
  chain_front from [] [] to chain = chain
  chain_front from [] (x ∷ rest) to chain = chain.0
  chain_front from (k ∷ front) rest to chain = (chain.0, chain.1, chain_front k front rest to chain.2)

  pub chain_back : (from : ℕ) (front rest : List ℕ) (to : ℕ) → IsChain nodes list from (front ++ rest) to → IsChain nodes list (last_from from front) rest to
  chain_back from [] rest to chain = chain
  chain_back from (k ∷ front) rest to chain = chain_back k front rest to chain.2

  pub chain_first : (from : ℕ) (ids : List ℕ) (to : ℕ) → IsChain nodes list from ids to → IsLinked nodes from (first_or ids to)
  chain_first from [] to chain = chain
  chain_first from (k ∷ rest) to chain = chain.0

  pub chain_last : (from : ℕ) (ids : List ℕ) (to : ℕ) → IsChain nodes list from ids to → IsLinked nodes (last_from from ids) to
  chain_last from [] to chain = chain
  chain_last from (k ∷ rest) to chain = chain_last k rest to chain.2

  -- each node on a chain is of the list
  pub chain_lists : (from : ℕ) (ids : List ℕ) (to : ℕ) → IsChain nodes list from ids to → (k : ℕ) → Contains ids k → list_in nodes k ≡ Some list
  chain_lists from [] to chain k there = absurd (not_in_none k there)
  chain_lists from (j ∷ rest) to chain k there =
      elim (Contains-cons_cases j k rest there) [
        | inl same ↦ sym (ap (list_in nodes) same) ∙ chain.1
        | inr later ↦ chain_lists j rest to chain.2 k later
      ]

  pub ring_lists : (ids : List ℕ) → IsRing nodes list ids → (k : ℕ) → Contains (list ∷ ids) k → list_in nodes k ≡ Some list
  ring_lists ids ring k there =
      elim (Contains-cons_cases list k ids there) [
        | inl same ↦ sym (ap (list_in nodes) same) ∙ ring.head
        | inr later ↦ chain_lists list ids list ring.chain k later
      ]

module _ (old new : Nodes) (list : ℕ) where
  pub chain_kept : (from : ℕ) (ids : List ℕ) (to : ℕ) → ((k : ℕ) → Contains (from ∷ ids) k → next_in new k ≡ next_in old k) → ((k : ℕ) → Contains (ids ++ to ∷ []) k → previous_in new k ≡ previous_in old k) → ((k : ℕ) → Contains ids k → list_in new k ≡ list_in old k) → IsChain old list from ids to → IsChain new list from ids to
  chain_kept from [] to nexts previouses lists chain = (nexts from (here from []) ∙ chain.0, previouses to (here to []) ∙ chain.1)
  chain_kept from (k ∷ rest) to nexts previouses lists chain = (
    (nexts from (here from (k ∷ rest)) ∙ chain.0.0, previouses k (here k (rest ++ to ∷ [])) ∙ chain.0.1),
    lists k (here k rest) ∙ chain.1,
    chain_kept k rest to (λ j there. nexts j (Contains-cons from j (k ∷ rest) there)) (λ j there. previouses j (Contains-cons k j (rest ++ to ∷ []) there)) (λ j there. lists j (Contains-cons k j rest there)) chain.2,
  )

  -- the chain begins elsewhere
  pub chain_from : (from other : ℕ) (ids : List ℕ) (to : ℕ) → IsLinked new other (first_or ids to) → ((k : ℕ) → Contains ids k → next_in new k ≡ next_in old k) → ((k : ℕ) → Contains (ids ++ to ∷ []) k → k ≢ first_or ids to → previous_in new k ≡ previous_in old k) → ((k : ℕ) → Contains ids k → list_in new k ≡ list_in old k) → IsDistinct eqb (ids ++ to ∷ []) → IsChain old list from ids to → IsChain new list other ids to
  chain_from from other [] to linked nexts previouses lists distinct chain = linked
  chain_from from other (k ∷ rest) to linked nexts previouses lists distinct chain = (
    linked,
    lists k (here k rest) ∙ chain.1,
    chain_kept k rest to nexts (λ j there. previouses j (Contains-cons k j (rest ++ to ∷ []) there) (apart_from_first k (rest ++ to ∷ []) distinct j there)) (λ j there. lists j (Contains-cons k j rest there)) chain.2,
  )

  -- the chain goes on by another one behind its last node
  pub chain_onto : (from : ℕ) (front rest : List ℕ) (past to : ℕ) → ((k : ℕ) → Contains (from ∷ front) k → k ≢ last_from from front → next_in new k ≡ next_in old k) → ((k : ℕ) → Contains front k → previous_in new k ≡ previous_in old k) → ((k : ℕ) → Contains front k → list_in new k ≡ list_in old k) → IsDistinct eqb (from ∷ front) → IsChain old list from front past → IsChain new list (last_from from front) rest to → IsChain new list from (front ++ rest) to
  chain_onto from [] rest past to nexts previouses lists distinct chain behind = behind
  chain_onto from (k ∷ front) rest past to nexts previouses lists distinct chain behind = (
    (
      nexts from (here from (k ∷ front)) (λ same. apart_from_first from (k ∷ front) distinct (last_from k front) (last_there k front) (sym same)) ∙ chain.0.0,
      previouses k (here k front) ∙ chain.0.1,
    ),
    lists k (here k front) ∙ chain.1,
    chain_onto k front rest past to
        (λ j there. nexts j (Contains-cons from j (k ∷ front) there))
        (λ j there. previouses j (Contains-cons k j front there))
        (λ j there. lists j (Contains-cons k j front there))
        (IsDistinct-tail eqb from (k ∷ front) distinct)
        chain.2 behind,
  )
