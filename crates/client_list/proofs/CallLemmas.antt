-- What the fields of a list say of the value that contracts see.
use Rattle.std.proofs.Common.{◌≡◌, ℕ, suc, ◌+◌, List, [], ◌∷◌, length, Option, Some, None, refl, subst, sym, ap, ◌∙◌, arith, ◌≤◌, is_some, inl, inr, Bool, true, ◌↔◌, eqb}
use Rattle.std.specs.Prelude.{slice_get, IfSome}
use Rattle.std.specs.Option.{option_map}
use Rattle.std.proofs.lemmas.Bool.{cases_lt, eq-eqb, eqb-true}
use Rattle.std.proofs.lemmas.Option.{slice_get-get_or, same_Some}
use Rattle.slab.specs.Slab.{Slab, get, slab_len, ContainsKey}
use Rattle.client_list.specs.declared.links.Node.{Node}
use Rattle.client_list.specs.Connected.{Connected, index_of, IsPosition, IsListed, pair_at, number_at, value_at, passed}
use Rattle.client_list.specs.Links.{Entry, along, node_of, positions_in, pairs_in, listed, IsHeld}
use Rattle.client_list.specs.IndexLemmas.{index_at, contains_at}
use Rattle.client_list.proofs.ChainLemmas.{listed-held, chain-first, node_at}

-- a count tells whether a list is empty
pub none_counted : {X : Type 0} (xs : List X) (n : ℕ) (is : Bool) → n ≡ length xs → is ≡ eqb n 0 → (is ≡ true) ↔ (xs ≡ [])
none_counted [] n is count test = (λ _. refl, λ _. test ∙ eq-eqb n 0 count)
none_counted (x ∷ xs) n is count test = (λ yes. absurd (omega (arith, eqb-true n 0 (sym test ∙ yes), count)), λ none. absurd (cc))

module _ {T : Type 0} where
  -- as many pairs as positions
  pub entries_long : (es : List (Entry T)) → length (pairs_in es) ≡ length es
  entries_long [] = refl
  entries_long (e ∷ es) = ap suc (entries_long es)

  pub positions_long : (es : List (Entry T)) → length (positions_in es) ≡ length es
  positions_long [] = refl
  positions_long (e ∷ es) = ap suc (positions_long es)

  -- the list in this slab, between these links, has this value
  pub record Shows (nodes : Slab (Node T)) (first last : Option ℕ) (value : Connected T) : Type 0 where
    pub held : IsHeld nodes first last
    pub is : value ≡ listed held.entries

  abbrev pub shows : (nodes : Slab (Node T)) (first last : Option ℕ) (value : Connected T) → IsHeld nodes first last → listed (along (get nodes) (slab_len nodes) first) ≡ value → Shows nodes first last value
  shows nodes first last value held is = record { held = held; is = sym is ∙ listed-held nodes first last held }

  module _ (nodes : Slab (Node T)) (first last : Option ℕ) (value : Connected T) (shown : Shows nodes first last value) where
    pub first_is : first ≡ slice_get value.positions 0
    first_is = chain-first (get nodes) None first last shown.held.entries shown.held.chain ∙ sym (ap (λ (v : Connected T). slice_get v.positions 0) shown.is)

    pub is_listed : IsListed value
    is_listed =
        subst IsListed (sym shown.is) (record {
          as_many = entries_long shown.held.entries ∙ sym (positions_long shown.held.entries);
          numbers = shown.held.numbers;
          positions = shown.held.positions;
        })

    pub pairs_counted : slab_len nodes ≡ length value.pairs
    pairs_counted = sym shown.held.count ∙ sym (entries_long shown.held.entries) ∙ sym (ap (λ (v : Connected T). length v.pairs) shown.is)

    pub positions_counted : slab_len nodes ≡ length value.positions
    positions_counted = sym shown.held.count ∙ sym (positions_long shown.held.entries) ∙ sym (ap (λ (v : Connected T). length v.positions) shown.is)

  -- the node of a viewer's position
  pub record AtPlace (nodes : Slab (Node T)) (value : Connected T) (position : ℕ) : Type 0 where
    pub pair : ℕ × T
    pub before : Option ℕ
    pub after : Option ℕ
    pub node : get nodes position ≡ Some (node_of pair before after)
    pub pair_is : pair_at value position ≡ Some pair
    pub after_is : after ≡ slice_get value.positions (index_of value.positions position + 1)

  pub at_position : (nodes : Slab (Node T)) (first last : Option ℕ) (value : Connected T) → Shows nodes first last value → (position : ℕ) → IsPosition value position → AtPlace nodes value position
  at_position nodes first last value shown position there =
      let es : List (Entry T) = shown.held.entries in
      let at = node_at (get nodes) None first last es position shown.held.chain (subst (λ (v : Connected T). IsPosition v position) shown.is there) in
      subst (λ (v : Connected T). AtPlace nodes v position) (sym shown.is) (record {
        pair = at.pair;
        before = at.before;
        after = at.after;
        node = at.node;
        pair_is = at.pair_is;
        after_is = at.after_is ∙ ap (slice_get (positions_in es)) (let e : suc (index_of (positions_in es) position) ≡ index_of (positions_in es) position + 1 = omega arith in e);
      })

  -- the position with an index is a viewer's
  pub slot_is_position : (c : Connected T) (i : ℕ) (o : Option ℕ) → o ≡ slice_get c.positions i → IfSome o (IsPosition c)
  slot_is_position c i None is = tt
  slot_is_position c i (Some position) is = contains_at c.positions i position (sym is)

  -- how many viewers are before the position with an index
  pub slot_passed : (c : Connected T) (i : ℕ) (o : Option ℕ) → IsListed c → i ≤ length c.positions → o ≡ slice_get c.positions i → passed c o ≡ i
  slot_passed c i None listed within is =
      elim (cases_lt i (length c.positions)) [
        | inl below ↦ let there = slice_get-get_or c.positions i 0 below in absurd (cc)
        | inr past ↦ omega arith
      ]
  slot_passed c i (Some position) listed within is = index_at c.positions i position listed.positions (sym is)

  -- what a slab finds at another name of the position
  pub found_is_some : (nodes : Slab (Node T)) (position key : ℕ) (node : Node T) → key ≡ position → get nodes position ≡ Some node → ContainsKey nodes key
  found_is_some nodes position key node same found = ap (λ (k : ℕ). is_some (get nodes k)) same ∙ ap is_some found

  -- what the node at a position says of its viewer
  module _ (nodes : Slab (Node T)) (first last : Option ℕ) (value : Connected T) (shown : Shows nodes first last value) (position key : ℕ) (there : IsPosition value position) (same : key ≡ position) where
    pub has_node : ContainsKey nodes key
    has_node = let at = at_position nodes first last value shown position there in found_is_some nodes position key (node_of at.pair at.before at.after) same at.node

    module _ (node : Node T) (found : get nodes key ≡ Some node) where
      node_is : (at : AtPlace nodes value position) → node_of at.pair at.before at.after ≡ node
      node_is at = same_Some (node_of at.pair at.before at.after) node (sym at.node ∙ ap (get nodes) (sym same) ∙ found)

      pub number_there : number_at value position ≡ Some node.number
      number_there =
          let at = at_position nodes first last value shown position there in
          ap (λ (o : Option (ℕ × T)). option_map (λ pair. pair.0) o) at.pair_is ∙ ap (λ (n : Node T). Some n.number) (node_is at)

      pub value_there : value_at value position ≡ Some node.value
      value_there =
          let at = at_position nodes first last value shown position there in
          ap (λ (o : Option (ℕ × T)). option_map (λ pair. pair.1) o) at.pair_is ∙ ap (λ (n : Node T). Some n.value) (node_is at)

      pub next_there : node.next ≡ slice_get value.positions (index_of value.positions position + 1)
      next_there =
          let at = at_position nodes first last value shown position there in
          sym (ap (λ (n : Node T). n.next) (node_is at)) ∙ at.after_is
