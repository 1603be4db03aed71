-- A chain after a change of one node.
use Rattle.std.proofs.Common.{◌≡◌, ℕ, zero, suc, List, [], ◌∷◌, ◌++◌, length, Option, Some, None, refl, subst, sym, ap, ◌∙◌, inl, inr, arith, Contains, eqb, is_some, true}
use Rattle.std.specs.Prelude.{MatchOption, IfSome}
use Rattle.std.specs.List.{IsDistinct}
use Rattle.std.specs.Map.{keys_of}
use Rattle.std.proofs.lemmas.Bool.{cases_eq}
use Rattle.std.proofs.lemmas.Option.{same_Some, none-some}
use Rattle.std.proofs.lemmas.Map.Keys.{IsDistinct-tail}
use Rattle.slab.specs.Slab.{Slab, get, Updates}
use Rattle.slab.proofs.SlabLemmas.{Contains-cons, Contains-cons_cases}
use Rattle.client_list.specs.declared.links.Node.{Node}
use Rattle.client_list.specs.Connected.{index_of, set_value_at}
use Rattle.client_list.specs.Links.{Entry, Nodes, node_of, positions_in, pairs_in, IsChain, NextChanged, PreviousChanged}
use Rattle.client_list.specs.DistinctLemmas.{apart_from_first}
use Rattle.client_list.specs.IndexLemmas.{index_here, index_there}

module _ {T : Type 0} where
  -- the entry with an index has w as its value
  abbrev pub set_entry : List (Entry T) → ℕ → T → List (Entry T)
  set_entry [] i w = []
  set_entry (e ∷ rest) zero w = (e.0, (e.1.0, w)) ∷ rest
  set_entry (e ∷ rest) (suc i) w = e ∷ set_entry rest i w

  pub positions-set_entry : (es : List (Entry T)) (i : ℕ) (w : T) → positions_in (set_entry es i w) ≡ positions_in es
  positions-set_entry [] i w = refl
  positions-set_entry (e ∷ rest) zero w = refl
  positions-set_entry (e ∷ rest) (suc i) w = ap (λ (l : List ℕ). e.0 ∷ l) (positions-set_entry rest i w)

  pub pairs-set_entry : (es : List (Entry T)) (i : ℕ) (w : T) → pairs_in (set_entry es i w) ≡ set_value_at (pairs_in es) i w
  pairs-set_entry [] i w = refl
  pairs-set_entry (e ∷ rest) zero w = refl
  pairs-set_entry (e ∷ rest) (suc i) w = ap (λ (l : List (ℕ × T)). e.1 ∷ l) (pairs-set_entry rest i w)

  pub numbers-set_entry : (es : List (Entry T)) (i : ℕ) (w : T) → keys_of (pairs_in (set_entry es i w)) ≡ keys_of (pairs_in es)
  numbers-set_entry [] i w = refl
  numbers-set_entry (e ∷ rest) zero w = refl
  numbers-set_entry (e ∷ rest) (suc i) w = ap (λ (l : List ℕ). e.1.0 ∷ l) (numbers-set_entry rest i w)

  pub length-set_entry : (es : List (Entry T)) (i : ℕ) (w : T) → length (set_entry es i w) ≡ length es
  length-set_entry [] i w = refl
  length-set_entry (e ∷ rest) zero w = refl
  length-set_entry (e ∷ rest) (suc i) w = ap suc (length-set_entry rest i w)

  -- a chain of nodes that stay is a chain
  pub chain-kept : (old new : Nodes T) (previous link last next : Option ℕ) (es : List (Entry T)) → ((p : ℕ) → Contains (positions_in es) p → new p ≡ old p) → IsChain old previous link es last next → IsChain new previous link es last next
  chain-kept old new previous link last next [] kept chain = chain
  chain-kept old new previous link last next (e ∷ rest) kept chain = (
    chain.0,
    chain.1,
    kept e.0 (0, omega arith, refl) ∙ chain.2,
    chain-kept old new (Some e.0) chain.1 last next rest (λ p there. kept p (Contains-cons e.0 p (positions_in rest) there)) chain.3,
  )

  -- each position of a chain has a node
  pub chain-has : (nodes : Nodes T) (previous link last next : Option ℕ) (es : List (Entry T)) (p : ℕ) → IsChain nodes previous link es last next → Contains (positions_in es) p → is_some (nodes p) ≡ true
  chain-has nodes previous link last next [] p chain there = absurd (omega (arith, there.1))
  chain-has nodes previous link last next (e ∷ rest) p chain there =
      elim (Contains-cons_cases e.0 p (positions_in rest) there) [
        | inl same ↦ ap (λ (k : ℕ). is_some (nodes k)) (sym same) ∙ ap is_some chain.2
        | inr later ↦ chain-has nodes (Some e.0) chain.1 last next rest p chain.3 later
      ]

  -- the last link of a chain leads to a position of it
  pub chain-last : (nodes : Nodes T) (previous link last next : Option ℕ) (e : Entry T) (rest : List (Entry T)) → IsChain nodes previous link (e ∷ rest) last next → (p : ℕ) × (last ≡ Some p) × Contains (positions_in (e ∷ rest)) p
  chain-last nodes previous link last next e [] chain = (e.0, chain.3.1, (0, omega arith, refl))
  chain-last nodes previous link last next e (e2 ∷ rest) chain =
      let later = chain-last nodes (Some e.0) chain.1 last next e2 rest chain.3 in
      (later.0, later.1, Contains-cons e.0 later.0 (positions_in (e2 ∷ rest)) later.2)

  chain_join-first : (nodes : Nodes T) (a f m n last next : Option ℕ) (ys : List (Entry T)) → f ≡ n → m ≡ a → IsChain nodes m n ys last next → IsChain nodes a f ys last next
  chain_join-first nodes a f m n last next ys first before chain =
      subst (λ (x : Option ℕ). IsChain nodes x f ys last next) before (subst (λ (x : Option ℕ). IsChain nodes m x ys last next) (sym first) chain)

  pub chain-join : (nodes : Nodes T) (a f m n last next : Option ℕ) (xs ys : List (Entry T)) → IsChain nodes a f xs m n → IsChain nodes m n ys last next → IsChain nodes a f (xs ++ ys) last next
  chain-join nodes a f m n last next [] ys front back = chain_join-first nodes a f m n last next ys front.0 front.1 back
  chain-join nodes a f m n last next (e ∷ xs) ys front back = (front.0, front.1, front.2, chain-join nodes (Some e.0) front.1 m n last next xs ys front.3 back)

  -- a chain in two parts, between which these links lead back and on
  pub record Parts (nodes : Nodes T) (a f : Option ℕ) (xs ys : List (Entry T)) (last next : Option ℕ) : Type 0 where
    pub back : Option ℕ
    pub on : Option ℕ
    pub front_part : IsChain nodes a f xs back on
    pub back_part : IsChain nodes back on ys last next

  pub chain-split : (nodes : Nodes T) (a f last next : Option ℕ) (xs ys : List (Entry T)) → IsChain nodes a f (xs ++ ys) last next → Parts nodes a f xs ys last next
  chain-split nodes a f last next [] ys chain = record { back = a; on = f; front_part = (refl, refl); back_part = chain }
  chain-split nodes a f last next (e ∷ xs) ys chain =
      let later = chain-split nodes (Some e.0) chain.1 last next xs ys chain.3 in
      record { back = later.back; on = later.on; front_part = (chain.0, chain.1, chain.2, later.front_part); back_part = later.back_part }

  module _ (old new : Slab (Node T)) where
    -- a change of the node at one position leaves a chain of other positions
    pub chain-elsewhere : (p : ℕ) (slot : Option (Node T)) (previous link last next : Option ℕ) (es : List (Entry T)) → Updates old new p slot → (Contains (positions_in es) p → ⊥) → IsChain (get old) previous link es last next → IsChain (get new) previous link es last next
    chain-elsewhere p slot previous link last next es updates away chain =
        chain-kept (get old) (get new) previous link last next es (λ q there. updates.others q (λ same. away (subst (Contains (positions_in es)) same there))) chain

    module _ (p : ℕ) (node : Node T) (found : get old p ≡ Some node) where
      -- the node at a position of a chain
      node_there : (e : Entry T) (previous after : Option ℕ) → e.0 ≡ p → get old e.0 ≡ Some (node_of e.1 previous after) → node ≡ node_of e.1 previous after
      node_there e previous after same there = same_Some node (node_of e.1 previous after) (sym found ∙ ap (get old) (sym same) ∙ there)

      first_apart : (e : Entry T) (rest : List (Entry T)) → IsDistinct eqb (positions_in (e ∷ rest)) → e.0 ≡ p → Contains (positions_in rest) p → ⊥
      first_apart e rest distinct same there = apart_from_first e.0 (positions_in rest) distinct p there (sym same)

      -- another value in one node
      pub chain-set : (w : T) → Updates old new p (Some (record node { value = w })) → (previous link last next : Option ℕ) (es : List (Entry T)) → IsDistinct eqb (positions_in es) → IsChain (get old) previous link es last next → IsChain (get new) previous link (set_entry es (index_of (positions_in es) p) w) last next
      chain-set w updates previous link last next [] distinct chain = chain
      chain-set w updates previous link last next (e ∷ rest) distinct chain =
          elim (cases_eq e.0 p) [
            | inl same ↦
                subst
                (λ (i : ℕ). IsChain (get new) previous link (set_entry (e ∷ rest) i w) last next)
                (sym (index_here p e.0 (positions_in rest) same)) (
                  chain.0,
                  chain.1,
                  ap (get new) same ∙ updates.changed ∙ ap (λ (n : Node T). Some (record n { value = w })) (node_there e previous chain.1 same chain.2),
                  chain-elsewhere p (Some (record node { value = w })) (Some e.0) chain.1 last next rest updates (first_apart e rest distinct same) chain.3,
                )
            | inr differs ↦
                subst
                (λ (i : ℕ). IsChain (get new) previous link (set_entry (e ∷ rest) i w) last next)
                (sym (index_there p e.0 (positions_in rest) differs)) (
                  chain.0,
                  chain.1,
                  updates.others e.0 differs ∙ chain.2,
                  chain-set w updates (Some e.0) chain.1 last next rest (IsDistinct-tail eqb e.0 (positions_in rest) distinct) chain.3,
                )
          ]

      -- another next link in the last node
      chain-next : (n' : Option ℕ) → Updates old new p (Some (record node { next = n' })) → (previous link last n : Option ℕ) (e : Entry T) (rest : List (Entry T)) → IsDistinct eqb (positions_in (e ∷ rest)) → last ≡ Some p → IsChain (get old) previous link (e ∷ rest) last n → IsChain (get new) previous link (e ∷ rest) last n'
      chain-next n' updates previous link last n e [] distinct is chain =
          let same : e.0 ≡ p = same_Some e.0 p (sym chain.3.1 ∙ is) in (
            chain.0,
            n',
            ap (get new) same ∙ updates.changed ∙ ap (λ (m : Node T). Some (record m { next = n' })) (node_there e previous chain.1 same chain.2),
            (refl, chain.3.1),
          )
      chain-next n' updates previous link last n e (e2 ∷ rest) distinct is chain =
          let end = chain-last (get old) (Some e.0) chain.1 last n e2 rest chain.3 in
          let there : Contains (positions_in (e2 ∷ rest)) p = subst (Contains (positions_in (e2 ∷ rest))) (same_Some end.0 p (sym end.1 ∙ is)) end.2 in (
            chain.0,
            chain.1,
            updates.others e.0 (λ same. apart_from_first e.0 (positions_in (e2 ∷ rest)) distinct p there (sym same)) ∙ chain.2,
            chain-next n' updates (Some e.0) chain.1 last n e2 rest (IsDistinct-tail eqb e.0 (positions_in (e2 ∷ rest)) distinct) is chain.3,
          )

    -- a list's front part, after its end leads on elsewhere
    pub chain-end : (first first' last n n' : Option ℕ) (es : List (Entry T)) → IsDistinct eqb (positions_in es) → NextChanged old new first first' last n' → IsChain (get old) None first es last n → IsChain (get new) None first' es last n'
    chain-end first first' last n n' [] distinct changed chain =
        let at_none : MatchOption None ((first' ≡ n') × (new ≡ old)) (λ p. (first' ≡ first) × (node : Node T) × (get old p ≡ Some node) × Updates old new p (Some (record node { next = n' }))) = subst (λ (l : Option ℕ). NextChanged old new first first' l n') chain.1 changed in
        (at_none.0, chain.1)
    chain-end first first' last n n' (e ∷ rest) distinct changed chain =
        let end = chain-last (get old) None first last n e rest chain in
        let at_some : MatchOption (Some end.0) ((first' ≡ n') × (new ≡ old)) (λ p. (first' ≡ first) × (node : Node T) × (get old p ≡ Some node) × Updates old new p (Some (record node { next = n' }))) = subst (λ (l : Option ℕ). NextChanged old new first first' l n') end.1 changed in
        subst
        (λ (f : Option ℕ). IsChain (get new) None f (e ∷ rest) last n')
        (sym at_some.0)
        (chain-next end.0 at_some.1 at_some.2 n' at_some.3 None first last n e rest distinct end.1 chain)

    -- a list's back part, after its start leads back elsewhere
    pub chain-start : (m m' link last last' : Option ℕ) (es : List (Entry T)) → IsDistinct eqb (positions_in es) → PreviousChanged old new last last' link m' → IsChain (get old) m link es last None → IsChain (get new) m' link es last' None
    chain-start m m' link last last' [] distinct changed chain =
        let at_none : MatchOption None ((last' ≡ m') × (new ≡ old)) (λ p. (last' ≡ last) × (node : Node T) × (get old p ≡ Some node) × Updates old new p (Some (record node { previous = m' }))) = subst (λ (l : Option ℕ). PreviousChanged old new last last' l m') chain.0 changed in
        (chain.0, at_none.0)
    chain-start m m' link last last' (e ∷ rest) distinct changed chain =
        let at_some : MatchOption (Some e.0) ((last' ≡ m') × (new ≡ old)) (λ p. (last' ≡ last) × (node : Node T) × (get old p ≡ Some node) × Updates old new p (Some (record node { previous = m' }))) = subst (λ (l : Option ℕ). PreviousChanged old new last last' l m') chain.0 changed in
        subst
        (λ (l : Option ℕ). IsChain (get new) m' link (e ∷ rest) l None)
        (sym at_some.0) (
          chain.0,
          chain.1,
          at_some.3.changed ∙ ap (λ (n : Node T). Some (record n { previous = m' })) (node_there e.0 at_some.1 at_some.2 e m chain.1 refl chain.2),
          chain-elsewhere e.0 (Some (record (at_some.1) { previous = m' })) (Some e.0) chain.1 last None rest at_some.3 (first_apart e.0 at_some.1 at_some.2 e rest distinct refl) chain.3,
        )

    -- a change of a next link leaves a chain of other positions
    pub chain-beside_next : (first first' position next : Option ℕ) (a f last n : Option ℕ) (es : List (Entry T)) → NextChanged old new first first' position next → ((p : ℕ) → position ≡ Some p → Contains (positions_in es) p → ⊥) → IsChain (get old) a f es last n → IsChain (get new) a f es last n
    chain-beside_next first first' None next a f last n es changed away chain = subst (λ (s : Slab (Node T)). IsChain (get s) a f es last n) (sym changed.1) chain
    chain-beside_next first first' (Some p) next a f last n es changed away chain = chain-elsewhere p (Some (record (changed.1) { next = next })) a f last n es changed.3 (away p refl) chain

    pub chain-beside_previous : (end end' position previous : Option ℕ) (a f last n : Option ℕ) (es : List (Entry T)) → PreviousChanged old new end end' position previous → ((p : ℕ) → position ≡ Some p → Contains (positions_in es) p → ⊥) → IsChain (get old) a f es last n → IsChain (get new) a f es last n
    chain-beside_previous end end' None previous a f last n es changed away chain = subst (λ (s : Slab (Node T)). IsChain (get s) a f es last n) (sym changed.1) chain
    chain-beside_previous end end' (Some p) previous a f last n es changed away chain = chain-elsewhere p (Some (record (changed.1) { previous = previous })) a f last n es changed.3 (away p refl) chain

    -- a change of a next link leaves the nodes at other positions
    pub beside_next : (first first' position next : Option ℕ) (q : ℕ) → NextChanged old new first first' position next → (position ≡ Some q → ⊥) → get new q ≡ get old q
    beside_next first first' None next q changed away = ap (λ (s : Slab (Node T)). get s q) changed.1
    beside_next first first' (Some p) next q changed away = changed.3.others q (λ same. away (ap Some (sym same)))

  -- where a list leads back to a position from its end, the position is in it
  pub end_there : (nodes : Nodes T) (first last n : Option ℕ) (es : List (Entry T)) (p : ℕ) → IsChain nodes None first es last n → last ≡ Some p → Contains (positions_in es) p
  end_there nodes first last n [] p chain is = absurd (none-some p (sym chain.1 ∙ is))
  end_there nodes first last n (e ∷ rest) p chain is =
      let end = chain-last nodes None first last n e rest chain in
      subst (Contains (positions_in (e ∷ rest))) (same_Some end.0 p (sym end.1 ∙ is)) end.2

  pub start_there : (nodes : Nodes T) (a link last : Option ℕ) (es : List (Entry T)) (p : ℕ) → IsChain nodes a link es last None → link ≡ Some p → Contains (positions_in es) p
  start_there nodes a link last [] p chain is = absurd (none-some p (sym chain.0 ∙ is))
  start_there nodes a link last (e ∷ rest) p chain is = (0, omega arith, same_Some e.0 p (sym chain.0 ∙ is))

  -- the nodes at both ends are there
  pub end_has : (nodes : Nodes T) (first last n : Option ℕ) (es : List (Entry T)) → IsChain nodes None first es last n → IfSome last (λ p. is_some (nodes p) ≡ true)
  end_has nodes first None n es chain = tt
  end_has nodes first (Some p) n es chain = chain-has nodes None first (Some p) n es p chain (end_there nodes first (Some p) n es p chain refl)

  pub start_has : (nodes : Nodes T) (a link last : Option ℕ) (es : List (Entry T)) → IsChain nodes a link es last None → IfSome link (λ p. is_some (nodes p) ≡ true)
  start_has nodes a None last es chain = tt
  start_has nodes a (Some p) last es chain = chain-has nodes a (Some p) last None es p chain (start_there nodes a (Some p) last es p chain refl)
