-- Lists that come and go, and a span that changes.
use Rattle.std.proofs.Common.{◌≡◌, ◌≢◌, ℕ, Bool, true, false, [], Option, Some, None, is_some, cond, refl, sym, ap, ◌∙◌, inl, inr, Contains, List, ◌∷◌, subst}
use Rattle.std.specs.Option.{option_map}
use Rattle.std.proofs.lemmas.Bool.{cases_eq}
use Rattle.std.proofs.lemmas.Option.{same_Some, none-some}
use Rattle.slab.specs.Slab.{Slab, get, Updates}
use Rattle.slab.proofs.SlabLemmas.{Contains-cons_cases}
use Rattle.span_arena.specs.declared.Span.{Span}
use Rattle.span_arena.specs.declared.nodes.Node.{Node}
use Rattle.span_arena.specs.Arena.{list_of, span_of, SetsList, SetsSpan, SameLists, SameSpans}
use Rattle.span_arena.specs.Links.{Nodes, list_in, next_in, previous_in, value_in, is_head, view_of, IsRing, IsHeld, HeadPut}
use Rattle.span_arena.specs.DistinctLemmas.{here, not_in_none, distinct_cons, distinct_none}
use Rattle.span_arena.specs.ViewLemmas.{ring_same, test_head, test_none, list_of_ring, no_list, span_of_view}
use Rattle.span_arena.proofs.ChangeLemmas.{with_same, with_other, Leaves, ring_kept, held_changed, list_left, span_left, same_test}

-- the fields of a key that has no node
pub no_list_in : (nodes : Nodes) (key : ℕ) → nodes key ≡ None → list_in nodes key ≡ None
no_list_in nodes key vacant = ap (λ (o : Option Node). option_map (λ node. node.list) o) vacant

module _ (old new : Nodes) (list : ℕ) (put : HeadPut old new list) where
  not_new : (k l : ℕ) → list_in old k ≡ Some l → k ≢ list
  not_new k l of same = none-some l (sym (no_list_in old k (ap old same ∙ put.vacant)) ∙ of)

  pub head_ring : IsRing new list []
  head_ring = record {
    head = put.lists list ∙ with_same (list_in old) list (Some list) list refl;
    chain = (put.nexts list ∙ with_same (next_in old) list (Some list) list refl, put.previouses list ∙ with_same (previous_in old) list (Some list) list refl);
    distinct = distinct_cons list [] (λ y there. absurd (not_in_none y there)) distinct_none;
  }

  pub head_leaves : (other : ℕ) → other ≢ list → Leaves old new other
  head_leaves other differs = record {
    head = same_test old new other (put.lists other ∙ with_other (list_in old) list (Some list) other differs);
    lists = λ k of. put.lists k ∙ with_other (list_in old) list (Some list) k (not_new k other of);
    nexts = λ k of. put.nexts k ∙ with_other (next_in old) list (Some list) k (not_new k other of);
    previouses = λ k of. put.previouses k ∙ with_other (previous_in old) list (Some list) k (not_new k other of);
  }

  pub head_held : IsHeld old → IsHeld new
  head_held held = held_changed old new list held head_leaves was changed
    where
      kept : (k l : ℕ) → k ≢ list → list_in new k ≡ Some l → list_in old k ≡ Some l
      kept k l differs of = sym (put.lists k ∙ with_other (list_in old) list (Some list) k differs) ∙ of

      was : (k other : ℕ) → other ≢ list → list_in new k ≡ Some other → list_in old k ≡ Some other
      was k other differs of = kept k other (λ same. differs (same_Some other list (sym of ∙ put.lists k ∙ with_same (list_in old) list (Some list) k same))) of

      changed : (k : ℕ) → list_in new k ≡ Some list → (ids : List ℕ) × IsRing new list ids × Contains (list ∷ ids) k
      changed k of = (
        [],
        head_ring,
        elim (cases_eq k list) [
          | inl same ↦ subst (Contains (list ∷ [])) (sym same) (here list [])
          | inr differs ↦ absurd (none-some list (sym (no_list_in old list put.vacant) ∙ (held k list (kept k list differs of)).1.head))
        ],
      )

module _ (old new : Slab Node) (list : ℕ) (put : HeadPut (get old) (get new) list) (held : IsHeld (get old)) where
  pub head_lists : SetsList (view_of old) (view_of new) list (Some [])
  head_lists = record {
    set = list_of_ring new list [] (head_ring (get old) (get new) list put);
    others = λ other differs. list_left old new held other (head_leaves (get old) (get new) list put other differs);
  }

  pub head_fresh : list_of (view_of old) list ≡ None
  head_fresh = no_list old list (test_none (get old) list (no_list_in (get old) list put.vacant))

  pub head_spans : SameSpans (view_of old) (view_of new)
  head_spans at =
      elim (cases_eq at list) [
        | inl same ↦ ap (span_of (view_of new)) same ∙ span_of_view new list ∙ rw (test_head (get new) list (head_ring (get old) (get new) list put).head) (sym (none_there)) ∙ sym (ap (span_of (view_of old)) same)
        | inr differs ↦ span_left old new at (head_leaves (get old) (get new) list put at differs).head (put.values at differs)
      ]
    where
      none_there : span_of (view_of old) list ≡ None
      none_there =
          span_of_view old list
          ∙ rw (test_none (get old) list (no_list_in (get old) list put.vacant)) (ap (λ (o : Option Node). option_map (λ node. node.span) o) put.vacant)

-- the head of a list that has no spans goes out
module _ (old new : Slab Node) (list : ℕ) (ring : IsRing (get old) list []) (out : Updates old new list None) (held : IsHeld (get old)) where
  gone : is_head (get new) list ≡ false
  gone = test_none (get new) list (no_list_in (get new) list out.changed)

  stays : (k other : ℕ) → other ≢ list → list_in (get old) k ≡ Some other → get new k ≡ get old k
  stays k other differs of = out.others k (λ same. differs (same_Some other list (sym of ∙ ap (list_in (get old)) same ∙ ring.head)))

  out_leaves : (other : ℕ) → other ≢ list → Leaves (get old) (get new) other
  out_leaves other differs = record {
    head = same_test (get old) (get new) other (ap (λ (o : Option Node). option_map (λ node. node.list) o) (out.others other differs));
    lists = λ k of. ap (λ (o : Option Node). option_map (λ node. node.list) o) (stays k other differs of);
    nexts = λ k of. ap (λ (o : Option Node). option_map (λ node. node.next) o) (stays k other differs of);
    previouses = λ k of. ap (λ (o : Option Node). option_map (λ node. node.previous) o) (stays k other differs of);
  }

  pub out_held : IsHeld (get new)
  out_held = held_changed (get old) (get new) list held out_leaves was changed
    where
      away : (k l : ℕ) → list_in (get new) k ≡ Some l → k ≢ list
      away k l of same = none-some l (sym (ap (list_in (get new)) same ∙ no_list_in (get new) list out.changed) ∙ of)

      kept : (k l : ℕ) → list_in (get new) k ≡ Some l → list_in (get old) k ≡ Some l
      kept k l of = sym (ap (λ (o : Option Node). option_map (λ node. node.list) o) (out.others k (away k l of))) ∙ of

      was : (k other : ℕ) → other ≢ list → list_in (get new) k ≡ Some other → list_in (get old) k ≡ Some other
      was k other differs of = kept k other of

      changed : (k : ℕ) → list_in (get new) k ≡ Some list → (ids : List ℕ) × IsRing (get new) list ids × Contains (list ∷ ids) k
      changed k of =
          let there = held k list (kept k list of) in
          let inside : Contains (list ∷ []) k = subst (λ (l : List ℕ). Contains (list ∷ l) k) (ring_same (get old) list there.0 [] there.1 ring) there.2 in
          absurd (elim (Contains-cons_cases list k [] inside) [
            | inl same ↦ away k list of (sym same)
            | inr none ↦ not_in_none k none
          ])

  pub out_lists : SetsList (view_of old) (view_of new) list None
  out_lists = record {
    set = no_list new list gone;
    others = λ other differs. list_left old new held other (out_leaves other differs);
  }

  pub out_spans : SameSpans (view_of old) (view_of new)
  out_spans at =
      elim (cases_eq at list) [
        | inl same ↦ ap (span_of (view_of new)) same ∙ none_then ∙ sym none_before ∙ sym (ap (span_of (view_of old)) same)
        | inr differs ↦ span_left old new at (out_leaves at differs).head (ap (λ (o : Option Node). option_map (λ node. node.span) o) (out.others at differs))
      ]
    where
      none_then : span_of (view_of new) list ≡ None
      none_then = span_of_view new list ∙ rw gone (ap (λ (o : Option Node). option_map (λ node. node.span) o) out.changed)

      none_before : span_of (view_of old) list ≡ None
      none_before = span_of_view old list ∙ rw (test_head (get old) list ring.head) refl

-- the node at a key has another span
module _ (old new : Slab Node) (key : ℕ) (node : Node) (span : Span) (found : get old key ≡ Some node) (written : Updates old new key (Some (record node { span = span }))) where
  field_stays : {X : Type 0} (f : Node → X) → f (record node { span = span }) ≡ f node → (k : ℕ) → option_map f (get new k) ≡ option_map f (get old k)
  field_stays f same k =
      elim (cases_eq k key) [
        | inl is ↦ ap (λ (j : ℕ). option_map f (get new j)) is ∙ ap (option_map f) written.changed ∙ ap Some same ∙ sym (ap (option_map f) found) ∙ sym (ap (λ (j : ℕ). option_map f (get old j)) is)
        | inr differs ↦ ap (option_map f) (written.others k differs)
      ]

  span_leaves : (list : ℕ) → Leaves (get old) (get new) list
  span_leaves list = record {
    head = same_test (get old) (get new) list (field_stays (λ n. n.list) refl list);
    lists = λ k of. field_stays (λ n. n.list) refl k;
    nexts = λ k of. field_stays (λ n. n.next) refl k;
    previouses = λ k of. field_stays (λ n. n.previous) refl k;
  }

  pub span_held : IsHeld (get old) → IsHeld (get new)
  span_held held = λ k list of.
      let there = held k list (sym (field_stays (λ n. n.list) refl k) ∙ of) in
      (there.0, ring_kept (get old) (get new) list there.0 (span_leaves list) there.1, there.2)

  pub span_lists : IsHeld (get old) → SameLists (view_of old) (view_of new)
  span_lists held list = list_left old new held list (span_leaves list)

  pub span_spans : is_some (span_of (view_of old) key) ≡ true → SetsSpan (view_of old) (view_of new) key (Some span)
  span_spans live = record {
    set = span_of_view new key ∙ ap (λ (b : Bool). cond b None (value_in (get new) key)) ((span_leaves key).head ∙ no_head (is_head (get old) key) refl) ∙ ap (λ (o : Option Node). option_map (λ n. n.span) o) written.changed;
    others = λ at differs. span_left old new at (span_leaves at).head (ap (λ (o : Option Node). option_map (λ n. n.span) o) (written.others at differs));
  }
    where
      no_head : (b : Bool) → is_head (get old) key ≡ b → is_head (get old) key ≡ false
      no_head false test = test
      no_head true test = absurd (let none : span_of (view_of old) key ≡ None = span_of_view old key ∙ rw test refl in let some = ap is_some none in cc)
