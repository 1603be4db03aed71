-- How the links of a list lie in its slab.
use Rattle.std.specs.Prelude.{◌≡◌, ℕ, zero, suc, nat_eq, List, [], ◌∷◌, map, length, Option, Some, None, MatchOption, IfSome, slice_get}
use Rattle.std.specs.HashMap.{HashMap}
use Rattle.std.specs.HashMap as hash
use Rattle.std.specs.List.{IsDistinct}
use Rattle.std.specs.Map.{keys_of}
use Rattle.std.specs.Option.{option_map_or}
use Rattle.slab.specs.Slab.{Slab, get, slab_len, Updates}
use Rattle.client_list.specs.Connected.{Connected, index_of_number, IsPosition}
use Rattle.client_list.specs.declared.links.Node.{Node}

-- a position with its pair of number and value
abbrev pub Entry : Type 0 → Type 0
Entry T = ℕ × (ℕ × T)

-- the node at each position, if there is one
abbrev pub Nodes : Type 0 → Type 0
Nodes T = ℕ → Option (Node T)

module _ {T : Type 0} where
  -- the pair of a node
  abbrev pub pair_in : Node T → ℕ × T
  pair_in node = (node.number, node.value)

  -- what lies along the next links from a link on, each position with its pair: at most so many
  abbrev pub along : Nodes T → ℕ → Option ℕ → List (Entry T)
  along nodes zero link = []
  along nodes (suc n) None = []
  along nodes (suc n) (Some position) = option_map_or (λ node. (position, pair_in node) ∷ along nodes n node.next) (nodes position) []

  abbrev pub positions_in : List (Entry T) → List ℕ
  positions_in entries = map (λ e. e.0) entries

  abbrev pub pairs_in : List (Entry T) → List (ℕ × T)
  pairs_in entries = map (λ e. e.1) entries

  abbrev pub listed : List (Entry T) → Connected T
  listed entries = record { pairs = pairs_in entries; positions = positions_in entries }

  -- what lies along the next links from the first
  abbrev pub linked : Slab (Node T) → Option ℕ → Connected T
  linked nodes first = listed (along (get nodes) (slab_len nodes) first)

  -- a node with this pair lies between these links
  abbrev pub node_of : ℕ × T → Option ℕ → Option ℕ → Node T
  node_of pair previous next = record { number = pair.0; value = pair.1; previous = previous; next = next }

  -- the links lead from `link` through these positions to `next`, and back from `last` to `previous`, and each position has its pair
  abbrev pub IsChain : Nodes T → Option ℕ → Option ℕ → List (Entry T) → Option ℕ → Option ℕ → Type 0
  IsChain nodes previous link [] last next = (link ≡ next) × (last ≡ previous)
  IsChain nodes previous link (e ∷ rest) last next =
      (link ≡ Some e.0) × (after : Option ℕ) × (nodes e.0 ≡ Some (node_of e.1 previous after))
      × IsChain nodes (Some e.0) after rest last next

  -- the links lead through as many positions as keys are occupied, none twice, and so through each of them, and no number
  -- comes twice
  pub record IsHeld (nodes : Slab (Node T)) (first last : Option ℕ) : Type 0 where
    pub entries : List (Entry T)
    pub chain : IsChain (get nodes) None first entries last None
    pub count : length entries ≡ slab_len nodes
    pub positions : IsDistinct nat_eq (positions_in entries)
    pub numbers : IsDistinct nat_eq (keys_of (pairs_in entries))

  -- what the map has at each number is the position at which the list has it, and `None` where the list hasn't it
  abbrev pub IsByNumber : {S : Type 0} → HashMap ℕ ℕ S → Connected T → Type 0
  IsByNumber by_number c = (number : ℕ) → hash.get nat_eq by_number number ≡ slice_get c.positions (index_of_number c number)

  -- the position that was found last, if it is kept, is a viewer's
  abbrev pub IsRecent : Option ℕ → Connected T → Type 0
  IsRecent recent c = IfSome recent (IsPosition c)

  -- the next link of the node at a position is another, or the first link where there is no position, and nothing else changed
  abbrev pub NextChanged : Slab (Node T) → Slab (Node T) → Option ℕ → Option ℕ → Option ℕ → Option ℕ → Type 0
  NextChanged old new first_old first_new position next =
      MatchOption
      position
      ((first_new ≡ next) × (new ≡ old))
      (λ p. (first_new ≡ first_old) × (node : Node T) × (get old p ≡ Some node) × Updates old new p (Some (record node { next = next })))

  -- the same of the previous link, and of the last
  abbrev pub PreviousChanged : Slab (Node T) → Slab (Node T) → Option ℕ → Option ℕ → Option ℕ → Option ℕ → Type 0
  PreviousChanged old new last_old last_new position previous =
      MatchOption
      position
      ((last_new ≡ previous) × (new ≡ old))
      (λ p. (last_new ≡ last_old) × (node : Node T) × (get old p ≡ Some node) × Updates old new p (Some (record node { previous = previous })))
