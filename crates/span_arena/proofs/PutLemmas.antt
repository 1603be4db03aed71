-- A list after a span came in.
use Rattle.std.proofs.Common.{◌≡◌, ◌≢◌, ℕ, Bool, false, List, [], ◌∷◌, ◌++◌, Option, Some, None, cond, refl, sym, ap, ◌∙◌, inl, inr, Contains, subst}
use Rattle.std.specs.Option.{option_map}
use Rattle.std.proofs.lemmas.Bool.{cases_eq}
use Rattle.std.proofs.lemmas.List.Elements.{Contains-append_left, Contains-append_right}
use Rattle.std.proofs.lemmas.Option.{same_Some, none-some}
use Rattle.slab.specs.Slab.{Slab, get}
use Rattle.slab.proofs.SlabLemmas.{Contains-cons}
use Rattle.span_arena.specs.declared.Span.{Span}
use Rattle.span_arena.specs.declared.nodes.Node.{Node}
use Rattle.span_arena.specs.Arena.{span_of, SetsList, SetsSpan}
use Rattle.span_arena.specs.Links.{Nodes, list_in, next_in, previous_in, value_in, is_head, view_of, IsRing, IsHeld, with_at, IsPut}
use Rattle.span_arena.specs.DistinctLemmas.{here, contains_without, distinct_with}
use Rattle.span_arena.specs.ChainLemmas.{chain_front, chain_back, ring_lists, chain_from, chain_onto}
use Rattle.span_arena.specs.ViewLemmas.{ring_same, test_other, test_none, list_of_ring, span_of_view}
use Rattle.span_arena.proofs.ChangeLemmas.{with_same, with_other, Leaves, held_changed, list_left, span_left, same_test, before, after, before_in, after_in, front_apart, rest_apart, front_distinct, rest_distinct, front_in, rest_in}

module _ (old new : Nodes) (list : ℕ) (front rest : List ℕ) (ring : IsRing old list (front ++ rest)) (key : ℕ) (span : Span) (put : IsPut old new list (before old list front rest ring) (after old list front rest ring) key span) where
  abbrev first_side : ℕ
  first_side = before old list front rest ring

  abbrev last_side : ℕ
  last_side = after old list front rest ring

  -- a node of a list isn't the new one
  pub not_new : (k l : ℕ) → list_in old k ≡ Some l → k ≢ key
  not_new k l of same = none-some l (sym (ap (λ (o : Option Node). option_map (λ node. node.list) o) (ap old same ∙ put.vacant)) ∙ of)

  pub list_stays : (k : ℕ) → k ≢ key → list_in new k ≡ list_in old k
  list_stays k fresh = put.lists k ∙ with_other (list_in old) key (Some list) k fresh

  next_stays : (k : ℕ) → k ≢ key → k ≢ first_side → next_in new k ≡ next_in old k
  next_stays k fresh away =
      put.nexts k
      ∙ with_other (with_at (next_in old) key (Some last_side)) first_side (Some key) k away
      ∙ with_other (next_in old) key (Some last_side) k fresh

  previous_stays : (k : ℕ) → k ≢ key → k ≢ last_side → previous_in new k ≡ previous_in old k
  previous_stays k fresh away =
      put.previouses k
      ∙ with_other (with_at (previous_in old) key (Some first_side)) last_side (Some key) k away
      ∙ with_other (previous_in old) key (Some first_side) k fresh

  pub new_in : list_in new key ≡ Some list
  new_in = put.lists key ∙ with_same (list_in old) key (Some list) key refl

  pub put_ring : IsRing new list (front ++ key ∷ rest)
  put_ring = record {
    head = list_stays list (not_new list list ring.head) ∙ ring.head;
    chain =
        chain_onto old new list list front (key ∷ rest) last_side list
        (λ k there away. next_stays k (not_new k list (front_in old list front rest ring k there)) away)
        (λ k there. previous_stays k (not_new k list (front_in old list front rest ring k (Contains-cons list k front there))) (front_apart old list front rest ring k there))
        (λ k there. list_stays k (not_new k list (front_in old list front rest ring k (Contains-cons list k front there))))
        (front_distinct old list front rest ring)
        (chain_front old list list front rest list ring.chain) (
          (
            put.nexts first_side ∙ with_same (with_at (next_in old) key (Some last_side)) first_side (Some key) first_side refl,
            put.previouses key
                ∙ with_other (with_at (previous_in old) key (Some first_side)) last_side (Some key) key (λ same. after_new (sym same))
                ∙ with_same (previous_in old) key (Some first_side) key refl,
          ),
          new_in,
          chain_from old new list first_side key rest list (
            put.nexts key
                ∙ with_other (with_at (next_in old) key (Some last_side)) first_side (Some key) key (λ same. before_new (sym same))
                ∙ with_same (next_in old) key (Some last_side) key refl,
            put.previouses last_side ∙ with_same (with_at (previous_in old) key (Some first_side)) last_side (Some key) last_side refl,
          )
              (λ k there. next_stays k (not_new k list (behind k there)) (rest_apart old list front rest ring k there))
              (λ k there away. previous_stays k (not_new k list (rest_in old list front rest ring k there)) away)
              (λ k there. list_stays k (not_new k list (behind k there)))
              (rest_distinct old list front rest ring)
              (chain_back old list list front rest list ring.chain),
        );
    distinct = distinct_with (list ∷ front) key rest (λ there. not_new key list (ring_lists old list (front ++ rest) ring key there) refl) ring.distinct;
  }
    where
      before_new : first_side ≢ key
      before_new = not_new first_side list (before_in old list front rest ring)

      after_new : last_side ≢ key
      after_new = not_new last_side list (after_in old list front rest ring)

      behind : (k : ℕ) → Contains rest k → list_in old k ≡ Some list
      behind k there = rest_in old list front rest ring k (Contains-append_left rest (list ∷ []) k there)

  -- the new node is no head
  list_new : list ≢ key
  list_new = not_new list list ring.head

  pub new_test : is_head new key ≡ false
  new_test = test_other new key list new_in list_new

  pub old_test : is_head old key ≡ false
  old_test = test_none old key (ap (λ (o : Option Node). option_map (λ node. node.list) o) put.vacant)

  test_stays : (k : ℕ) → is_head new k ≡ is_head old k
  test_stays k =
      elim (cases_eq k key) [
        | inl same ↦ ap (is_head new) same ∙ new_test ∙ sym old_test ∙ sym (ap (is_head old) same)
        | inr fresh ↦ same_test old new k (list_stays k fresh)
      ]

  pub put_leaves : (other : ℕ) → other ≢ list → Leaves old new other
  put_leaves other differs = record {
    head = test_stays other;
    lists = λ k of. list_stays k (not_new k other of);
    nexts = λ k of. next_stays k (not_new k other of) (λ same. apart k first_side of same (before_in old list front rest ring));
    previouses = λ k of. previous_stays k (not_new k other of) (λ same. apart k last_side of same (after_in old list front rest ring));
  }
    where
      apart : (k side : ℕ) → list_in old k ≡ Some other → k ≡ side → list_in old side ≡ Some list → ⊥
      apart k side of same is = differs (same_Some other list (sym of ∙ ap (list_in old) same ∙ is))

  pub put_held : IsHeld old → IsHeld new
  put_held held = held_changed old new list held put_leaves was changed
    where
      was : (k other : ℕ) → other ≢ list → list_in new k ≡ Some other → list_in old k ≡ Some other
      was k other differs of =
          elim (cases_eq k key) [
            | inl same ↦ absurd (differs (same_Some other list (sym of ∙ ap (list_in new) same ∙ new_in)))
            | inr fresh ↦ sym (list_stays k fresh) ∙ of
          ]

      changed : (k : ℕ) → list_in new k ≡ Some list → (ids : List ℕ) × IsRing new list ids × Contains (list ∷ ids) k
      changed k of = (
        front ++ key ∷ rest,
        put_ring,
        elim (cases_eq k key) [
          | inl same ↦ Contains-append_right (list ∷ front) (key ∷ rest) k (subst (Contains (key ∷ rest)) (sym same) (here key rest))
          | inr fresh ↦
              let there = held k list (sym (list_stays k fresh) ∙ of) in
              contains_without (list ∷ front) key rest k (subst (λ (l : List ℕ). Contains (list ∷ l) k) (ring_same old list there.0 (front ++ rest) there.1 ring) there.2)
        ],
      )

module _ (old new : Slab Node) (list : ℕ) (front rest : List ℕ) (ring : IsRing (get old) list (front ++ rest)) (key : ℕ) (span : Span) (put : IsPut (get old) (get new) list (before (get old) list front rest ring) (after (get old) list front rest ring) key span) (held : IsHeld (get old)) where
  pub put_lists : SetsList (view_of old) (view_of new) list (Some (front ++ key ∷ rest))
  put_lists = record {
    set = list_of_ring new list (front ++ key ∷ rest) (put_ring (get old) (get new) list front rest ring key span put);
    others = λ other differs. list_left old new held other (put_leaves (get old) (get new) list front rest ring key span put other differs);
  }

  pub put_spans : SetsSpan (view_of old) (view_of new) key (Some span)
  put_spans = record {
    set =
        span_of_view new key
        ∙ ap (λ (b : Bool). cond b None (value_in (get new) key)) (new_test (get old) (get new) list front rest ring key span put)
        ∙ put.values key
        ∙ with_same (value_in (get old)) key (Some span) key refl;
    others = λ other differs.
        span_left old new other
        (same_test (get old) (get new) other (list_stays (get old) (get new) list front rest ring key span put other differs))
        (put.values other ∙ with_other (value_in (get old)) key (Some span) other differs);
  }

  pub put_fresh : span_of (view_of old) key ≡ None
  put_fresh =
      span_of_view old key
      ∙ ap (λ (b : Bool). cond b None (value_in (get old) key)) (old_test (get old) (get new) list front rest ring key span put)
      ∙ ap (λ (o : Option Node). option_map (λ node. node.span) o) put.vacant
