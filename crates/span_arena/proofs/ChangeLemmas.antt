-- What one change of the nodes leaves, and makes of the list that it changes.
use Rattle.std.proofs.Common.{◌≡◌, ◌≢◌, ◌⊎◌, ℕ, Bool, true, false, List, [], ◌∷◌, ◌++◌, Option, Some, None, cond, refl, subst, sym, ap, ◌∙◌, inl, inr, Contains, eqb}
use Rattle.std.specs.List.{IsDistinct}
use Rattle.std.specs.Option.{option_map_or}
use Rattle.std.proofs.lemmas.Bool.{eq-eqb, ne_eqb, cases_eq}
use Rattle.std.proofs.lemmas.Map.Keys.{IsDistinct-tail}
use Rattle.std.proofs.lemmas.List.Elements.{Contains-append_left, Contains-append_right, Contains-append_cases}
use Rattle.slab.specs.Slab.{Slab, get}
use Rattle.slab.proofs.SlabLemmas.{Contains-cons, Contains-cons_cases}
use Rattle.span_arena.specs.declared.Span.{Span}
use Rattle.span_arena.specs.declared.nodes.Node.{Node}
use Rattle.span_arena.specs.Arena.{list_of, span_of, last_from}
use Rattle.span_arena.specs.Links.{Nodes, list_in, next_in, previous_in, value_in, is_head, view_of, IsLinked, IsRing, IsHeld, with_at}
use Rattle.span_arena.specs.DistinctLemmas.{here, not_in_none, apart_from_first, distinct_left, distinct_right, distinct_between, distinct_push, first_or, last_there}
use Rattle.span_arena.specs.ChainLemmas.{chain_front, chain_last, chain_lists, ring_lists, chain_kept}
use Rattle.span_arena.specs.ViewLemmas.{head_test, list_of_ring, no_list, span_of_view}

-- the changed key, and each other
pub with_same : {X : Type 0} (f : ℕ → Option X) (at : ℕ) (x : Option X) (key : ℕ) → key ≡ at → with_at f at x key ≡ x
with_same f at x key same = rw (eq-eqb key at same) refl

pub with_other : {X : Type 0} (f : ℕ → Option X) (at : ℕ) (x : Option X) (key : ℕ) → key ≢ at → with_at f at x key ≡ f key
with_other f at x key differs = rw (ne_eqb key at differs) refl

-- nothing of one list changed
pub record Leaves (old new : Nodes) (list : ℕ) : Type 0 where
  pub head : is_head new list ≡ is_head old list
  pub lists : (k : ℕ) → list_in old k ≡ Some list → list_in new k ≡ list_in old k
  pub nexts : (k : ℕ) → list_in old k ≡ Some list → next_in new k ≡ next_in old k
  pub previouses : (k : ℕ) → list_in old k ≡ Some list → previous_in new k ≡ previous_in old k

module _ (old new : Nodes) where
  pub ring_kept : (list : ℕ) (ids : List ℕ) → Leaves old new list → IsRing old list ids → IsRing new list ids
  ring_kept list ids leaves ring = record {
    head = leaves.lists list ring.head ∙ ring.head;
    chain =
        chain_kept old new list list ids list
        (λ k there. leaves.nexts k (ring_lists old list ids ring k there))
        (λ k there. leaves.previouses k (elim (Contains-append_cases ids (list ∷ []) k there) [
          | inl left ↦ ring_lists old list ids ring k (Contains-cons list k ids left)
          | inr right ↦ elim (Contains-cons_cases list k [] right) [
            | inl same ↦ sym (ap (list_in old) same) ∙ ring.head
            | inr none ↦ absurd (not_in_none k none)
          ]
        ]))
        (λ k there. leaves.lists k (ring_lists old list ids ring k (Contains-cons list k ids there)))
        ring.chain;
    distinct = ring.distinct;
  }

  -- a change of one list leaves lists
  pub held_changed : (list : ℕ) → IsHeld old → ((other : ℕ) → other ≢ list → Leaves old new other) → ((key other : ℕ) → other ≢ list → list_in new key ≡ Some other → list_in old key ≡ Some other) → ((key : ℕ) → list_in new key ≡ Some list → (ids : List ℕ) × IsRing new list ids × Contains (list ∷ ids) key) → IsHeld new
  held_changed list held leaves was changed = λ key other of.
      elim (cases_eq other list) [
        | inl same ↦ subst (λ (l : ℕ). (ids : List ℕ) × IsRing new l ids × Contains (l ∷ ids) key) (sym same) (changed key (subst (λ (l : ℕ). list_in new key ≡ Some l) same of))
        | inr differs ↦
            let there = held key other (was key other differs of) in
            (there.0, ring_kept other there.0 (leaves other differs) there.1, there.2)
      ]

-- contracts see no change of a list that was left
pub list_left : (old new : Slab Node) → IsHeld (get old) → (list : ℕ) → Leaves (get old) (get new) list → list_of (view_of new) list ≡ list_of (view_of old) list
list_left old new held list leaves = by (is_head (get old) list) refl
  where
    by : (b : Bool) → is_head (get old) list ≡ b → list_of (view_of new) list ≡ list_of (view_of old) list
    by true test =
        let there = held list list (head_test (get old) list test) in
        list_of_ring new list there.0 (ring_kept (get old) (get new) list there.0 leaves there.1) ∙ sym (list_of_ring old list there.0 there.1)
    by false test = no_list new list (leaves.head ∙ test) ∙ sym (no_list old list test)

-- contracts see no change of a span whose node was left
pub span_left : (old new : Slab Node) (at : ℕ) → is_head (get new) at ≡ is_head (get old) at → value_in (get new) at ≡ value_in (get old) at → span_of (view_of new) at ≡ span_of (view_of old) at
span_left old new at head value =
    span_of_view new at
    ∙ ap (λ (b : Bool). cond b None (value_in (get new) at)) head
    ∙ ap (λ (o : Option Span). cond (is_head (get old) at) None o) value
    ∙ sym (span_of_view old at)

pub same_test : (old new : Nodes) (key : ℕ) → list_in new key ≡ list_in old key → is_head new key ≡ is_head old key
same_test old new key same = ap (λ (o : Option ℕ). option_map_or (λ l. eqb l key) o false) same

-- where a ring of front and rest has its places
module _ (nodes : Nodes) (list : ℕ) (front rest : List ℕ) (ring : IsRing nodes list (front ++ rest)) where
  abbrev pub before : ℕ
  before = last_from list front

  abbrev pub after : ℕ
  after = first_or rest list

  pub linked : IsLinked nodes before after
  linked = chain_last nodes list list front after (chain_front nodes list list front rest list ring.chain)

  -- the nodes on both sides are of the list
  pub before_in : list_in nodes before ≡ Some list
  before_in = by (Contains-cons_cases list before front (last_there list front))
    where
      by : (list ≡ before) ⊎ Contains front before → list_in nodes before ≡ Some list
      by (inl same) = sym (ap (list_in nodes) same) ∙ ring.head
      by (inr there) = chain_lists nodes list list (front ++ rest) list ring.chain before (Contains-append_left front rest before there)

  pub after_in : list_in nodes after ≡ Some list
  after_in = by rest refl
    where
      by : (xs : List ℕ) → rest ≡ xs → list_in nodes (first_or rest list) ≡ Some list
      by [] is = ap (λ (l : List ℕ). list_in nodes (first_or l list)) is ∙ ring.head
      by (x ∷ xs) is =
          ap (λ (l : List ℕ). list_in nodes (first_or l list)) is
          ∙ chain_lists nodes list list (front ++ rest) list ring.chain x (Contains-append_right front rest x (subst (λ (l : List ℕ). Contains l x) (sym is) (here x xs)))

  -- no node in front lies behind, and none behind lies in front
  pub front_apart : (k : ℕ) → Contains front k → k ≢ after
  front_apart k there = by rest refl
    where
      by : (xs : List ℕ) → rest ≡ xs → k ≢ first_or rest list
      by [] is same = apart_from_first list (front ++ rest) ring.distinct k (Contains-append_left front rest k there) (same ∙ ap (λ (l : List ℕ). first_or l list) is)
      by (x ∷ xs) is same =
          distinct_between front rest (IsDistinct-tail eqb list (front ++ rest) ring.distinct) k x there (subst (λ (l : List ℕ). Contains l x) (sym is) (here x xs))
          (sym (same ∙ ap (λ (l : List ℕ). first_or l list) is))

  pub rest_apart : (k : ℕ) → Contains rest k → k ≢ before
  rest_apart k there = distinct_between (list ∷ front) rest ring.distinct before k (last_there list front) there

  pub front_distinct : IsDistinct eqb (list ∷ front)
  front_distinct = distinct_left (list ∷ front) rest ring.distinct

  pub rest_distinct : IsDistinct eqb (rest ++ list ∷ [])
  rest_distinct =
      distinct_push rest list
      (λ k there. apart_from_first list (front ++ rest) ring.distinct k (Contains-append_right front rest k there))
      (distinct_right (list ∷ front) rest ring.distinct)

  -- all of these are of the list
  pub front_in : (k : ℕ) → Contains (list ∷ front) k → list_in nodes k ≡ Some list
  front_in k there =
      elim (Contains-cons_cases list k front there) [
        | inl same ↦ sym (ap (list_in nodes) same) ∙ ring.head
        | inr later ↦ chain_lists nodes list list (front ++ rest) list ring.chain k (Contains-append_left front rest k later)
      ]

  pub rest_in : (k : ℕ) → Contains (rest ++ list ∷ []) k → list_in nodes k ≡ Some list
  rest_in k there =
      elim (Contains-append_cases rest (list ∷ []) k there) [
        | inl left ↦ chain_lists nodes list list (front ++ rest) list ring.chain k (Contains-append_right front rest k left)
        | inr right ↦ elim (Contains-cons_cases list k [] right) [
          | inl same ↦ sym (ap (list_in nodes) same) ∙ ring.head
          | inr none ↦ absurd (not_in_none k none)
        ]
      ]
