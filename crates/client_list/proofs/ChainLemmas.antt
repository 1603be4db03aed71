-- What lies along the links.
use Rattle.std.proofs.Common.{◌≡◌, ℕ, suc, List, [], ◌∷◌, length, Option, Some, None, refl, sym, ap, ◌∙◌, inl, inr, arith, Contains}
use Rattle.std.specs.Prelude.{slice_get}
use Rattle.std.specs.Option.{option_map_or}
use Rattle.std.proofs.lemmas.Bool.{cases_eq}
use Rattle.slab.specs.Slab.{Slab, get, slab_len}
use Rattle.client_list.specs.declared.links.Node.{Node}
use Rattle.client_list.specs.Connected.{index_of}
use Rattle.client_list.specs.Links.{Entry, Nodes, along, pair_in, node_of, positions_in, pairs_in, listed, IsChain, IsHeld}
use Rattle.client_list.specs.IndexLemmas.{index_here, index_there, among_others}

module _ {T : Type 0} where
  -- what is found along the links is the chain
  pub along-chain : (nodes : Nodes T) (previous link last : Option ℕ) (es : List (Entry T)) → IsChain nodes previous link es last None → along nodes (length es) link ≡ es
  along-chain nodes previous link last [] chain = refl
  along-chain nodes previous link last (e ∷ rest) chain =
      let later : along nodes (length rest) chain.1 ≡ rest = along-chain nodes (Some e.0) chain.1 last rest chain.3 in
      ap (along nodes (suc (length rest))) chain.0
      ∙ ap (λ (n : Option (Node T)). option_map_or (λ node. (e.0, pair_in node) ∷ along nodes (length rest) node.next) n []) chain.2
      ∙ ap (λ (l : List (Entry T)). e ∷ l) later

  -- the value that contracts see is that of the entries
  pub listed-held : (nodes : Slab (Node T)) (first last : Option ℕ) (held : IsHeld nodes first last) → listed (along (get nodes) (slab_len nodes) first) ≡ listed held.entries
  listed-held nodes first last held =
      ap listed (ap (λ (n : ℕ). along (get nodes) n first) (sym held.count) ∙ along-chain (get nodes) None first last held.entries held.chain)

  -- the first link leads to the first position
  pub chain-first : (nodes : Nodes T) (previous link last : Option ℕ) (es : List (Entry T)) → IsChain nodes previous link es last None → link ≡ slice_get (positions_in es) 0
  chain-first nodes previous link last [] chain = chain.0
  chain-first nodes previous link last (e ∷ rest) chain = chain.0

  -- what the node at a position has
  pub record NodeAt (nodes : Nodes T) (es : List (Entry T)) (position : ℕ) : Type 0 where
    pub pair : ℕ × T
    pub before : Option ℕ
    pub after : Option ℕ
    pub node : nodes position ≡ Some (node_of pair before after)
    pub pair_is : slice_get (pairs_in es) (index_of (positions_in es) position) ≡ Some pair
    pub after_is : after ≡ slice_get (positions_in es) (suc (index_of (positions_in es) position))

  pub node_at : (nodes : Nodes T) (previous link last : Option ℕ) (es : List (Entry T)) (position : ℕ) → IsChain nodes previous link es last None → Contains (positions_in es) position → NodeAt nodes es position
  node_at nodes previous link last [] position chain there = absurd (omega (arith, there.1))
  node_at nodes previous link last (e ∷ rest) position chain there =
      elim (cases_eq e.0 position) [
        | inl same ↦
            let here = index_here position e.0 (positions_in rest) same in
            record {
              pair = e.1;
              before = previous;
              after = chain.1;
              node = ap nodes (sym same) ∙ chain.2;
              pair_is = ap (slice_get (pairs_in (e ∷ rest))) here;
              after_is = chain-first nodes (Some e.0) chain.1 last rest chain.3 ∙ sym (ap (λ (i : ℕ). slice_get (positions_in (e ∷ rest)) (suc i)) here);
            }
        | inr differs ↦
            let behind = index_there position e.0 (positions_in rest) differs in
            let later = node_at nodes (Some e.0) chain.1 last rest position chain.3 (among_others position e.0 (positions_in rest) differs there) in
            record {
              pair = later.pair;
              before = later.before;
              after = later.after;
              node = later.node;
              pair_is = ap (slice_get (pairs_in (e ∷ rest))) behind ∙ later.pair_is;
              after_is = later.after_is ∙ sym (ap (λ (i : ℕ). slice_get (positions_in (e ∷ rest)) (suc i)) behind);
            }
      ]
