-- What contracts see of the nodes.
use Rattle.std.proofs.Common.{◌≡◌, ◌≢◌, ℕ, zero, suc, ◌+◌, ◌<◌, ◌≤◌, Bool, true, false, List, [], ◌∷◌, length, Option, Some, None, is_some, refl, subst, sym, ap, ◌∙◌, zero-add, arith, Contains, eqb}
use Rattle.std.specs.Prelude.{slice_index_or}
use Rattle.std.specs.Option.{option_map, option_map_or}
use Rattle.std.proofs.lemmas.Bool.{eq-eqb, ne_eqb, eqb-true}
use Rattle.std.proofs.lemmas.List.{get_or_past}
use Rattle.std.proofs.lemmas.Option.{same_Some}
use Rattle.slab.specs.Slab.{Slab, get}
use Rattle.slab.proofs.SlabLemmas.{ContainsKey-within}
use Rattle.span_arena.specs.declared.nodes.Node.{Node}
use Rattle.span_arena.specs.Arena.{Arena, list_of, ids_of, span_of}
use Rattle.span_arena.specs.Links.{Nodes, list_in, is_head, along, list_at, span_at, from_key, view_of, IsChain, IsRing, IsHeld}
use Rattle.span_arena.specs.DistinctLemmas.{here, apart_from_first, first_or, few_below}
use Rattle.span_arena.specs.ChainLemmas.{chain_first, ring_lists}

pub from_key-get : {X : Type 0} (f : ℕ → Option X) (key n i : ℕ) → ((j : ℕ) → key + n ≤ j → f j ≡ None) → slice_index_or (from_key f key n) i None ≡ f (key + i)
from_key-get f key zero i past = sym (past (key + i) (omega arith))
from_key-get f key (suc n) zero past = ap f (let e : key ≡ key + 0 = omega arith in e)
from_key-get f key (suc n) (suc i) past =
    from_key-get f (suc key) n i (λ j within. past j (omega (arith, within)))
    ∙ ap f (let e : suc key + i ≡ key + suc i = omega arith in e)

-- a live list is that of its ids
pub ids_there : (a : Arena) (list : ℕ) → is_some (list_of a list) ≡ true → list_of a list ≡ Some (ids_of a list)
ids_there a list = by (list_of a list)
  where
    by : (o : Option (List ℕ)) → is_some o ≡ true → o ≡ Some (option_map_or (λ ids. ids) o [])
    by None some = absurd (cc)
    by (Some ids) some = refl

pub ids_are : (a : Arena) (list : ℕ) (ids : List ℕ) → list_of a list ≡ Some ids → ids_of a list ≡ ids
ids_are a list ids is = ap (λ (o : Option (List ℕ)). option_map_or (λ l. l) o []) is

-- a head by its test, and the other way round
pub test_head : (nodes : Nodes) (key : ℕ) → list_in nodes key ≡ Some key → is_head nodes key ≡ true
test_head nodes key head = ap (λ (o : Option ℕ). option_map_or (λ list. eqb list key) o false) head ∙ eq-eqb key key refl

pub head_test : (nodes : Nodes) (key : ℕ) → is_head nodes key ≡ true → list_in nodes key ≡ Some key
head_test nodes key = by (list_in nodes key)
  where
    by : (o : Option ℕ) → option_map_or (λ list. eqb list key) o false ≡ true → o ≡ Some key
    by None test = absurd (cc)
    by (Some list) test = ap Some (eqb-true list key test)

-- a node of another list is no head
pub test_other : (nodes : Nodes) (key list : ℕ) → list_in nodes key ≡ Some list → list ≢ key → is_head nodes key ≡ false
test_other nodes key list of differs = ap (λ (o : Option ℕ). option_map_or (λ l. eqb l key) o false) of ∙ ne_eqb list key differs

pub test_none : (nodes : Nodes) (key : ℕ) → list_in nodes key ≡ None → is_head nodes key ≡ false
test_none nodes key none = ap (λ (o : Option ℕ). option_map_or (λ l. eqb l key) o false) none

-- what lies along the links is the chain
pub along-chain : (nodes : Nodes) (list from : ℕ) (ids : List ℕ) (to n : ℕ) → ((k : ℕ) → Contains ids k → k ≢ to) → length ids ≤ n → IsChain nodes list from ids to → along nodes to n (first_or ids to) ≡ ids
along-chain nodes list from [] to zero apart long chain = refl
along-chain nodes list from [] to (suc n) apart long chain = rw (eq-eqb to to refl) refl
along-chain nodes list from (k ∷ rest) to zero apart long chain = absurd (omega (arith, long))
along-chain nodes list from (k ∷ rest) to (suc n) apart long chain =
    let leads = chain_first nodes list k rest to chain.2 in
    let later : along nodes to n (first_or rest to) ≡ rest = along-chain nodes list k rest to n (λ j there. apart j (more k j rest there)) (omega (arith, long)) chain.2 in
    rw (ne_eqb k to (apart k (here k rest)))
    (
    ap (λ (o : Option ℕ). k ∷ option_map_or (λ next. along nodes to n next) o []) leads.0
    ∙ ap (λ (l : List ℕ). k ∷ l) later
    )
  where
    more : (x y : ℕ) (xs : List ℕ) → Contains xs y → Contains (x ∷ xs) y
    more x y xs there = (suc there.0, omega (arith, there.1), there.2)

-- a list has one ring
pub ring_same : (nodes : Nodes) (list : ℕ) (ids others : List ℕ) → IsRing nodes list ids → IsRing nodes list others → ids ≡ others
ring_same nodes list ids others ring other =
    let n : ℕ = length ids + length others in
    sym (along-chain nodes list list ids list n (apart_from_first list ids ring.distinct) (omega arith) ring.chain)
    ∙ ap (along nodes list n) (same_Some (first_or ids list) (first_or others list) (sym (chain_first nodes list list ids list ring.chain).0 ∙ (chain_first nodes list list others list other.chain).0))
    ∙ along-chain nodes list list others list n (apart_from_first list others other.distinct) (omega arith) other.chain

module _ (s : Slab Node) where
  -- a key of a node has a slot
  pub has_slot : (key list : ℕ) → list_in (get s) key ≡ Some list → key < length s.slots
  has_slot key list of = ContainsKey-within s key (has (get s key) list of)
    where
      has : (o : Option Node) (l : ℕ) → option_map (λ node. node.list) o ≡ Some l → is_some o ≡ true
      has None l is = absurd (cc)
      has (Some node) l is = refl

  pub no_node : (key : ℕ) → length s.slots ≤ key → get s key ≡ None
  no_node key past = get_or_past s.slots key None past

  pub list_of_view : (list : ℕ) → list_of (view_of s) list ≡ list_at (get s) (length s.slots) list
  list_of_view list =
      from_key-get (list_at (get s) (length s.slots)) 0 (length s.slots) list (λ j past. none j (no_node j (omega (arith, past))))
      ∙ ap (list_at (get s) (length s.slots)) (zero-add list)
    where
      none : (j : ℕ) → get s j ≡ None → list_at (get s) (length s.slots) j ≡ None
      none j vacant = rw (test_none (get s) j (ap (λ (o : Option Node). option_map (λ node. node.list) o) vacant)) refl

  pub span_of_view : (at : ℕ) → span_of (view_of s) at ≡ span_at (get s) at
  span_of_view at =
      from_key-get (span_at (get s)) 0 (length s.slots) at (λ j past. none j (no_node j (omega (arith, past))))
      ∙ ap (span_at (get s)) (zero-add at)
    where
      none : (j : ℕ) → get s j ≡ None → span_at (get s) j ≡ None
      none j vacant = rw (test_none (get s) j (ap (λ (o : Option Node). option_map (λ node. node.list) o) vacant)) (ap (λ (o : Option Node). option_map (λ node. node.span) o) vacant)

  -- a ring is what contracts see of its list
  pub list_of_ring : (list : ℕ) (ids : List ℕ) → IsRing (get s) list ids → list_of (view_of s) list ≡ Some ids
  list_of_ring list ids ring =
      let few : suc (length ids) ≤ length s.slots = few_below (list ∷ ids) (length s.slots) ring.distinct (λ k there. has_slot k list (ring_lists (get s) list ids ring k there)) in
      let found : along (get s) list (length s.slots) (first_or ids list) ≡ ids =
      along-chain (get s) list list ids list (length s.slots) (λ k there. apart_from_first list ids ring.distinct k there) (omega (arith, few)) ring.chain in
      list_of_view list
      ∙ rw (test_head (get s) list ring.head)
      (
      ap (λ (o : Option ℕ). Some (option_map_or (λ first. along (get s) list (length s.slots) first) o [])) (chain_first (get s) list list ids list ring.chain).0
      ∙ ap Some found
      )

  pub no_list : (list : ℕ) → is_head (get s) list ≡ false → list_of (view_of s) list ≡ None
  no_list list test = list_of_view list ∙ rw test refl

  pub ring_of_list : IsHeld (get s) → (list : ℕ) (ids : List ℕ) → list_of (view_of s) list ≡ Some ids → IsRing (get s) list ids
  ring_of_list held list ids is = by (is_head (get s) list) refl
    where
      by : (b : Bool) → is_head (get s) list ≡ b → IsRing (get s) list ids
      by true test =
          let there = held list list (head_test (get s) list test) in
          subst (IsRing (get s) list) (same_Some there.0 ids (sym (list_of_ring list there.0 there.1) ∙ is)) there.1
      by false test = absurd (let none = no_list list test in cc)

  -- a list that contracts see has a ring
  pub ring_there : IsHeld (get s) → (list : ℕ) → is_some (list_of (view_of s) list) ≡ true → (ids : List ℕ) × IsRing (get s) list ids
  ring_there held list some = by (is_head (get s) list) refl
    where
      by : (b : Bool) → is_head (get s) list ≡ b → (ids : List ℕ) × IsRing (get s) list ids
      by true test = let there = held list list (head_test (get s) list test) in (there.0, there.1)
      by false test = absurd (let none = ap is_some (no_list list test) in cc)
