-- A list after a span went out.
use Rattle.std.proofs.Common.{◌≡◌, ◌≢◌, ℕ, Bool, false, List, [], ◌∷◌, ◌++◌, Option, Some, None, cond, refl, subst, sym, ap, ◌∙◌, inl, inr, Contains, eqb}
use Rattle.std.specs.Option.{option_map}
use Rattle.std.proofs.lemmas.Bool.{cases_eq}
use Rattle.std.proofs.lemmas.Map.Keys.{IsDistinct-tail}
use Rattle.std.proofs.lemmas.List.Elements.{Contains-append_left}
use Rattle.std.proofs.lemmas.Option.{same_Some, none-some}
use Rattle.slab.specs.Slab.{Slab, get, Updates}
use Rattle.slab.proofs.SlabLemmas.{Contains-cons}
use Rattle.span_arena.specs.declared.Span.{Span}
use Rattle.span_arena.specs.declared.nodes.Node.{Node}
use Rattle.span_arena.specs.Arena.{span_of, last_from, SetsList, SetsSpan}
use Rattle.span_arena.specs.Links.{Nodes, list_in, next_in, previous_in, value_in, is_head, view_of, IsBetween, IsRing, IsHeld, with_at, NextSet, PreviousSet, IsCut}
use Rattle.span_arena.specs.DistinctLemmas.{contains_away, here, apart_from_first, distinct_between, distinct_without, first_or, last_there, first_there}
use Rattle.span_arena.specs.ChainLemmas.{chain_front, chain_back, chain_first, chain_last, chain_from, chain_onto}
use Rattle.span_arena.specs.ViewLemmas.{ring_same, test_other, test_none, list_of_ring, span_of_view}
use Rattle.span_arena.proofs.ChangeLemmas.{with_same, with_other, Leaves, held_changed, list_left, span_left, same_test, front_distinct, rest_distinct, front_in, rest_in, rest_apart}

module _ (old : Nodes) (list : ℕ) (front : List ℕ) (key : ℕ) (back : List ℕ) (ring : IsRing old list (front ++ key ∷ back)) where
  abbrev pub first_side : ℕ
  first_side = last_from list front

  abbrev pub last_side : ℕ
  last_side = first_or back list

  -- the key's place
  pub key_in : list_in old key ≡ Some list
  key_in = rest_in old list front (key ∷ back) ring key (here key (back ++ list ∷ []))

  behind_in : (k : ℕ) → Contains (back ++ list ∷ []) k → list_in old k ≡ Some list
  behind_in k there = rest_in old list front (key ∷ back) ring k (Contains-cons key k (back ++ list ∷ []) there)

  -- what is behind the key isn't the key
  behind_apart : (k : ℕ) → Contains (back ++ list ∷ []) k → k ≢ key
  behind_apart k there = apart_from_first key (back ++ list ∷ []) (rest_distinct old list front (key ∷ back) ring) k there

  front_key : (k : ℕ) → Contains (list ∷ front) k → k ≢ key
  front_key k there same = distinct_between (list ∷ front) (key ∷ back) ring.distinct k key there (here key back) (sym same)

  pub key_between : IsBetween old first_side key last_side
  key_between = (
    chain_last old list list front key (chain_front old list list front (key ∷ back) list ring.chain),
    chain_first old list key back list (chain_back old list list front (key ∷ back) list ring.chain).2,
    front_key first_side (last_there list front),
    behind_apart last_side (first_there back list),
  )

  module _ (new : Nodes) (cut : IsCut old new first_side last_side key) where
    pub list_stays : (k : ℕ) → k ≢ key → list_in new k ≡ list_in old k
    list_stays k away = cut.lists k ∙ with_other (list_in old) key None k away

    next_stays : (k : ℕ) → k ≢ key → k ≢ first_side → next_in new k ≡ next_in old k
    next_stays k away apart =
        cut.nexts k
        ∙ with_other (with_at (next_in old) key None) first_side (Some last_side) k apart
        ∙ with_other (next_in old) key None k away

    previous_stays : (k : ℕ) → k ≢ key → k ≢ last_side → previous_in new k ≡ previous_in old k
    previous_stays k away apart =
        cut.previouses k
        ∙ with_other (with_at (previous_in old) key None) last_side (Some first_side) k apart
        ∙ with_other (previous_in old) key None k away

    pub cut_ring : IsRing new list (front ++ back)
    cut_ring = record {
      head = list_stays list (front_key list (here list front)) ∙ ring.head;
      chain =
          chain_onto old new list list front back key list
          (λ k there apart. next_stays k (front_key k there) apart)
          (λ k there. previous_stays k (front_key k (Contains-cons list k front there)) (front_last k there))
          (λ k there. list_stays k (front_key k (Contains-cons list k front there)))
          (front_distinct old list front (key ∷ back) ring)
          (chain_front old list list front (key ∷ back) list ring.chain)
          (chain_from old new list key first_side back list (
            cut.nexts first_side ∙ with_same (with_at (next_in old) key None) first_side (Some last_side) first_side refl,
            cut.previouses last_side ∙ with_same (with_at (previous_in old) key None) last_side (Some first_side) last_side refl,
          )
          (λ k there. next_stays k (behind_apart k (Contains-append_left back (list ∷ []) k there)) (rest_apart old list front (key ∷ back) ring k (Contains-cons key k back there)))
          (λ k there apart. previous_stays k (behind_apart k there) apart)
          (λ k there. list_stays k (behind_apart k (Contains-append_left back (list ∷ []) k there)))
          (IsDistinct-tail eqb key (back ++ list ∷ []) (rest_distinct old list front (key ∷ back) ring))
          (chain_back old list list front (key ∷ back) list ring.chain).2);
      distinct = distinct_without (list ∷ front) key back ring.distinct;
    }
      where
        front_last : (k : ℕ) → Contains front k → k ≢ last_side
        front_last k there = by back refl
          where
            by : (xs : List ℕ) → back ≡ xs → k ≢ first_or back list
            by [] is same = apart_from_first list (front ++ key ∷ back) ring.distinct k (Contains-append_left front (key ∷ back) k there) (same ∙ ap (λ (l : List ℕ). first_or l list) is)
            by (x ∷ xs) is same =
                distinct_between (list ∷ front) (key ∷ back) ring.distinct k x (Contains-cons list k front there)
                (Contains-cons key x back (subst (λ (l : List ℕ). Contains l x) (sym is) (here x xs)))
                (sym (same ∙ ap (λ (l : List ℕ). first_or l list) is))

    list_key : list ≢ key
    list_key = front_key list (here list front)

    pub new_test : is_head new key ≡ false
    new_test = test_none new key (cut.lists key ∙ with_same (list_in old) key None key refl)

    pub old_test : is_head old key ≡ false
    old_test = test_other old key list key_in list_key

    test_stays : (k : ℕ) → is_head new k ≡ is_head old k
    test_stays k =
        elim (cases_eq k key) [
          | inl same ↦ ap (is_head new) same ∙ new_test ∙ sym old_test ∙ sym (ap (is_head old) same)
          | inr away ↦ same_test old new k (list_stays k away)
        ]

    pub cut_leaves : (other : ℕ) → other ≢ list → Leaves old new other
    cut_leaves other differs = record {
      head = test_stays other;
      lists = λ k of. list_stays k (λ same. apart k key of same key_in);
      nexts = λ k of. next_stays k (λ same. apart k key of same key_in) (λ same. apart k first_side of same (front_in old list front (key ∷ back) ring first_side (last_there list front)));
      previouses = λ k of. previous_stays k (λ same. apart k key of same key_in) (λ same. apart k last_side of same (behind_in last_side (first_there back list)));
    }
      where
        apart : (k side : ℕ) → list_in old k ≡ Some other → k ≡ side → list_in old side ≡ Some list → ⊥
        apart k side of same is = differs (same_Some other list (sym of ∙ ap (list_in old) same ∙ is))

    pub cut_held : IsHeld old → IsHeld new
    cut_held held = held_changed old new list held cut_leaves was changed
      where
        away : (k l : ℕ) → list_in new k ≡ Some l → k ≢ key
        away k l of same = none-some l (sym (cut.lists k ∙ with_same (list_in old) key None k same) ∙ of)

        was : (k other : ℕ) → other ≢ list → list_in new k ≡ Some other → list_in old k ≡ Some other
        was k other differs of = sym (list_stays k (away k other of)) ∙ of

        changed : (k : ℕ) → list_in new k ≡ Some list → (ids : List ℕ) × IsRing new list ids × Contains (list ∷ ids) k
        changed k of =
            let there = held k list (sym (list_stays k (away k list of)) ∙ of) in
            (front ++ back, cut_ring, contains_away (list ∷ front) key back k (away k list of) (subst (λ (l : List ℕ). Contains (list ∷ l) k) (ring_same old list there.0 (front ++ key ∷ back) there.1 ring) there.2))

module _ (old new : Slab Node) (list : ℕ) (front : List ℕ) (key : ℕ) (back : List ℕ) (ring : IsRing (get old) list (front ++ key ∷ back)) (cut : IsCut (get old) (get new) (first_side (get old) list front key back ring) (last_side (get old) list front key back ring) key) (held : IsHeld (get old)) where
  pub cut_lists : SetsList (view_of old) (view_of new) list (Some (front ++ back))
  cut_lists = record {
    set = list_of_ring new list (front ++ back) (cut_ring (get old) list front key back ring (get new) cut);
    others = λ other differs. list_left old new held other (cut_leaves (get old) list front key back ring (get new) cut other differs);
  }

  pub cut_spans : SetsSpan (view_of old) (view_of new) key None
  cut_spans = record {
    set =
        span_of_view new key
        ∙ ap (λ (b : Bool). cond b None (value_in (get new) key)) (new_test (get old) list front key back ring (get new) cut)
        ∙ cut.values key
        ∙ with_same (value_in (get old)) key None key refl;
    others = λ other differs.
        span_left old new other
        (same_test (get old) (get new) other (list_stays (get old) list front key back ring (get new) cut other differs))
        (cut.values other ∙ with_other (value_in (get old)) key None other differs);
  }

  pub cut_span : (span : Span) → value_in (get old) key ≡ Some span → span_of (view_of old) key ≡ Some span
  cut_span span value =
      span_of_view old key
      ∙ ap (λ (b : Bool). cond b None (value_in (get old) key)) (old_test (get old) list front key back ring (get new) cut)
      ∙ value

-- a function that is another with one key changed stays so where both are changed
with_both : {X : Type 0} (f g : ℕ → Option X) (at : ℕ) (x : Option X) → ((k : ℕ) → f k ≡ g k) → (k : ℕ) → with_at f at x k ≡ with_at g at x k
with_both f g at x same k =
    elim (cases_eq k at) [
      | inl here ↦ with_same f at x k here ∙ sym (with_same g at x k here)
      | inr away ↦ with_other f at x k away ∙ same k ∙ sym (with_other g at x k away)
    ]

-- the three steps of taking a node out
pub cut_made : (old mid : Slab Node) (next new : Nodes) (at : ℕ) (node : Node) → get old at ≡ Some node → Updates old mid at None → NextSet (get mid) next node.previous node.next → PreviousSet next new node.next node.previous → (before after : ℕ) → IsBetween (get old) before at after → IsCut (get old) new before after at
cut_made old mid next new at node found out on back before after between =
    let left : node.previous ≡ before = same_Some node.previous before (sym (ap (option_map (λ n. n.previous)) found) ∙ between.0.1) in
    let right : node.next ≡ after = same_Some node.next after (sym (ap (option_map (λ n. n.next)) found) ∙ between.1.0) in
    subst (λ (b : ℕ). IsCut (get old) new b after at) left (subst (λ (a : ℕ). IsCut (get old) new node.previous a at) right made)
  where
    without : {X : Type 0} (f : Node → X) (k : ℕ) → option_map f (get mid k) ≡ with_at (λ j. option_map f (get old j)) at None k
    without {X} f k =
        elim (cases_eq k at) [
          | inl here ↦ ap (λ (j : ℕ). option_map f (get mid j)) here ∙ ap (option_map f) out.changed ∙ sym (with_same (λ j. option_map f (get old j)) at None k here)
          | inr away ↦ ap (option_map f) (out.others k away) ∙ sym (with_other (λ j. option_map f (get old j)) at None k away)
        ]

    made : IsCut (get old) new node.previous node.next at
    made = record {
      lists = λ k. back.lists k ∙ on.lists k ∙ without (λ n. n.list) k;
      nexts = λ k. back.nexts k ∙ on.nexts k ∙ with_both (next_in (get mid)) (with_at (next_in (get old)) at None) node.previous (Some node.next) (without (λ n. n.next)) k;
      previouses = λ k. back.previouses k ∙ with_both (previous_in next) (with_at (previous_in (get old)) at None) node.next (Some node.previous) (λ j. on.previouses j ∙ without (λ n. n.previous) j) k;
      values = λ k. back.values k ∙ on.values k ∙ without (λ n. n.span) k;
    }
