-- How the links of the lists lie in their slab.
use Rattle.std.specs.Prelude.{◌≡◌, ◌≢◌, ℕ, zero, suc, ◌-◌, Bool, false, ◌==◌, nat_eq, if◌then◌else◌, List, [], ◌∷◌, length, Option, Some, None}
use Rattle.std.specs.List.{Contains, IsDistinct}
use Rattle.std.specs.Option.{option_map, option_map_or}
use Rattle.slab.specs.Slab.{Slab, get, slab_len}
use Rattle.span_arena.specs.declared.Span.{Span}
use Rattle.span_arena.specs.declared.nodes.Node.{Node}
use Rattle.span_arena.specs.Arena.{Arena}

-- the node at each key, if there is one
abbrev pub Nodes : Type 0
Nodes = ℕ → Option Node

module _ (nodes : Nodes) where
  -- the list, the links and the span of the node at a key
  abbrev pub list_in : ℕ → Option ℕ
  list_in key = option_map (λ node. node.list) (nodes key)

  abbrev pub next_in : ℕ → Option ℕ
  next_in key = option_map (λ node. node.next) (nodes key)

  abbrev pub previous_in : ℕ → Option ℕ
  previous_in key = option_map (λ node. node.previous) (nodes key)

  abbrev pub value_in : ℕ → Option Span
  value_in key = option_map (λ node. node.span) (nodes key)

  -- the node at a key is the head of the list with that id
  abbrev pub is_head : ℕ → Bool
  is_head key = option_map_or (λ list. list == key) (list_in key) false

  -- the keys along the next links from a key on until `stop`: at most so many
  abbrev pub along : (stop count key : ℕ) → List ℕ
  along stop zero key = []
  along stop (suc n) key = if key == stop then [] else key ∷ option_map_or (λ next. along stop n next) (next_in key) []

  -- the list with an id: the keys behind its head, at most so many
  abbrev pub list_at : ℕ → ℕ → Option (List ℕ)
  list_at most key = if is_head key then Some (option_map_or (λ first. along key most first) (next_in key) []) else None

  -- the span with an id: that of a node that is no head
  abbrev pub span_at : ℕ → Option Span
  span_at key = if is_head key then None else value_in key

-- what a function gives for so many keys from a key on
abbrev pub from_key : {X : Type 0} → (ℕ → Option X) → ℕ → ℕ → List (Option X)
from_key f key zero = []
from_key f key (suc n) = f key ∷ from_key f (suc key) n

-- what contracts see
abbrev pub view_of : Slab Node → Arena
view_of nodes = record {
  lists = from_key (list_at (get nodes) (length nodes.slots)) 0 (length nodes.slots);
  spans = from_key (span_at (get nodes)) 0 (length nodes.slots);
  spare = nodes.capacity - slab_len nodes;
}

module _ (nodes : Nodes) where
  -- a node leads on to another, which leads back to it
  abbrev pub IsLinked : ℕ → ℕ → Type 0
  IsLinked from to = (next_in nodes from ≡ Some to) × (previous_in nodes to ≡ Some from)

  -- the node at a key lies between two others
  abbrev pub IsBetween : (before key after : ℕ) → Type 0
  IsBetween before key after = IsLinked before key × IsLinked key after × (before ≢ key) × (after ≢ key)

  -- links lead on and back between `from` and `to` through these nodes of a list
  abbrev pub IsChain : ℕ → ℕ → List ℕ → ℕ → Type 0
  IsChain list from [] to = IsLinked from to
  IsChain list from (key ∷ rest) to = IsLinked from key × (list_in nodes key ≡ Some list) × IsChain list key rest to

  -- from the list's head the links lead through these nodes of the list and to the head again, through none twice
  pub record IsRing (list : ℕ) (ids : List ℕ) : Type 0 where
    pub head : list_in nodes list ≡ Some list
    pub chain : IsChain list list ids list
    pub distinct : IsDistinct nat_eq (list ∷ ids)

  -- each node lies on the ring of its list
  abbrev pub IsHeld : Type 0
  IsHeld = (key list : ℕ) → list_in nodes key ≡ Some list → (ids : List ℕ) × IsRing list ids × Contains (list ∷ ids) key

-- a function that gives this for one key, and what f gives for each other
abbrev pub with_at : {X : Type 0} → (ℕ → Option X) → ℕ → Option X → ℕ → Option X
with_at f at x key = if key == at then x else f key

module _ (old new : Nodes) where
  -- the node at a key leads on to another, and nothing else changed
  pub record NextSet (at next : ℕ) : Type 0 where
    pub lists : (key : ℕ) → list_in new key ≡ list_in old key
    pub nexts : (key : ℕ) → next_in new key ≡ with_at (next_in old) at (Some next) key
    pub previouses : (key : ℕ) → previous_in new key ≡ previous_in old key
    pub values : (key : ℕ) → value_in new key ≡ value_in old key

  -- the same of the previous link
  pub record PreviousSet (at previous : ℕ) : Type 0 where
    pub lists : (key : ℕ) → list_in new key ≡ list_in old key
    pub nexts : (key : ℕ) → next_in new key ≡ next_in old key
    pub previouses : (key : ℕ) → previous_in new key ≡ with_at (previous_in old) at (Some previous) key
    pub values : (key : ℕ) → value_in new key ≡ value_in old key

  -- a node of a list with this span came in between two nodes
  pub record IsPut (list before after key : ℕ) (span : Span) : Type 0 where
    pub vacant : old key ≡ None
    pub lists : (k : ℕ) → list_in new k ≡ with_at (list_in old) key (Some list) k
    pub nexts : (k : ℕ) → next_in new k ≡ with_at (with_at (next_in old) key (Some after)) before (Some key) k
    pub previouses : (k : ℕ) → previous_in new k ≡ with_at (with_at (previous_in old) key (Some before)) after (Some key) k
    pub values : (k : ℕ) → value_in new k ≡ with_at (value_in old) key (Some span) k

  -- the node at a key was taken out from between two nodes
  pub record IsCut (before after key : ℕ) : Type 0 where
    pub lists : (k : ℕ) → list_in new k ≡ with_at (list_in old) key None k
    pub nexts : (k : ℕ) → next_in new k ≡ with_at (with_at (next_in old) key None) before (Some after) k
    pub previouses : (k : ℕ) → previous_in new k ≡ with_at (with_at (previous_in old) key None) after (Some before) k
    pub values : (k : ℕ) → value_in new k ≡ with_at (value_in old) key None k

  -- the head of a list that has no spans came in
  pub record HeadPut (list : ℕ) : Type 0 where
    pub vacant : old list ≡ None
    pub lists : (k : ℕ) → list_in new k ≡ with_at (list_in old) list (Some list) k
    pub nexts : (k : ℕ) → next_in new k ≡ with_at (next_in old) list (Some list) k
    pub previouses : (k : ℕ) → previous_in new k ≡ with_at (previous_in old) list (Some list) k
    pub values : (k : ℕ) → k ≢ list → value_in new k ≡ value_in old k
