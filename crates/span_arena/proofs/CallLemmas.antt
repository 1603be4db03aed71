-- What the nodes say of the value that contracts see.
use Rattle.std.proofs.Common.{◌≡◌, ◌≢◌, ℕ, Bool, true, false, List, [], ◌∷◌, ◌++◌, Option, Some, None, is_some, cond, refl, subst, sym, ap, ◌∙◌, Contains, eqb, inl, inr}
use Rattle.std.specs.Prelude.{slice_get}
use Rattle.std.specs.Option.{option_map}
use Rattle.std.proofs.lemmas.Bool.{eq-eqb, ne_eqb}
use Rattle.std.proofs.lemmas.List.{append-nil}
use Rattle.std.proofs.lemmas.List.Elements.{Contains-append_left, Contains-append_right}
use Rattle.std.proofs.lemmas.Map.Keys.{IsDistinct-tail}
use Rattle.std.proofs.lemmas.Option.{same_Some}
use Rattle.slab.specs.Slab.{Slab, get, ContainsKey}
use Rattle.slab.proofs.SlabLemmas.{Contains-cons, Contains-cons_cases}
use Rattle.span_arena.specs.declared.Span.{Span}
use Rattle.span_arena.specs.declared.nodes.Node.{Node}
use Rattle.span_arena.specs.Arena.{Arena, list_of, span_of, last_from, last_in, IsIn, IsSound, SetsList, SetsSpan, SameSpans}
use Rattle.span_arena.specs.Links.{Nodes, list_in, value_in, is_head, span_at, view_of, IsLinked, IsBetween, IsRing, IsHeld, IsPut, IsCut}
use Rattle.span_arena.specs.DistinctLemmas.{split_at, here, apart_from_first, first_or, last_there}
use Rattle.span_arena.specs.ChainLemmas.{chain_first, chain_last}
use Rattle.span_arena.specs.ViewLemmas.{test_head, list_of_ring, test_other, ring_of_list, ring_there, span_of_view}
use Rattle.span_arena.proofs.ChangeLemmas.{linked}
use Rattle.span_arena.proofs.PutLemmas.{put_held, put_lists, put_spans, put_fresh}
use Rattle.span_arena.proofs.CutLemmas.{key_in, key_between, cut_held, cut_lists, cut_spans, cut_span}

-- the nodes are seen as these lists and spans
pub record Shows (s : Slab Node) (a : Arena) : Type 0 where
  pub held : IsHeld (get s)
  pub lists : (list : ℕ) → list_of (view_of s) list ≡ list_of a list
  pub spans : (at : ℕ) → span_of (view_of s) at ≡ span_of a at

pub shows : (s : Slab Node) (a : Arena) → IsHeld (get s) → view_of s ≡ a → Shows s a
shows s a held is = record { held = held; lists = λ list. ap (λ (v : Arena). list_of v list) is; spans = λ at. ap (λ (v : Arena). span_of v at) is }

-- and so they are after more room was made
pub shows_more : (s t : Slab Node) (a : Arena) → IsHeld (get s) → view_of s ≡ a → t ≡ record s { capacity = t.capacity } → Shows t a
shows_more s t a held is more = rw more (record { held = held; lists = λ list. ap (λ (v : Arena). list_of v list) is; spans = λ at. ap (λ (v : Arena). span_of v at) is })

pub same_held : (s t : Slab Node) → IsHeld (get s) → t ≡ record s { capacity = t.capacity } → IsHeld (get t)
same_held s t held more = subst (λ (u : Slab Node). IsHeld (get u)) (sym more) held

module _ (nodes : Nodes) where
  -- a key with one field has a node
  pub node_there : {X : Type 0} (f : Node → X) (key : ℕ) (x : X) → option_map f (nodes key) ≡ Some x → is_some (nodes key) ≡ true
  node_there {X} f key x = by (nodes key)
    where
      by : (o : Option Node) → option_map f o ≡ Some x → is_some o ≡ true
      by None is = absurd (cc)
      by (Some node) is = refl

  -- a field of the node that was found
  pub field_is : {X : Type 0} (f : Node → X) (key : ℕ) (node : Node) (x : X) → nodes key ≡ Some node → option_map f (nodes key) ≡ Some x → f node ≡ x
  field_is {X} f key node x found is = same_Some (f node) x (sym (ap (option_map f) found) ∙ is)

  -- a live span is its node's
  pub live_value : (key : ℕ) → is_some (span_at nodes key) ≡ true → span_at nodes key ≡ value_in nodes key
  live_value key = by (is_head nodes key)
    where
      by : (b : Bool) → is_some (cond b None (value_in nodes key)) ≡ true → cond b None (value_in nodes key) ≡ value_in nodes key
      by true some = absurd (cc)
      by false some = refl

  pub some_there : {X : Type 0} (f : Node → X) (key : ℕ) → is_some (option_map f (nodes key)) ≡ true → is_some (nodes key) ≡ true
  some_there {X} f key = by (nodes key)
    where
      by : (o : Option Node) → is_some (option_map f o) ≡ true → is_some o ≡ true
      by None is = absurd (cc)
      by (Some node) is = refl

-- the link to the first of a list's spans, or behind one; and to the last
pub first_is : (list : ℕ) (ids : List ℕ) → ((k : ℕ) → Contains ids k → k ≢ list) → cond (eqb (first_or ids list) list) None (Some (first_or ids list)) ≡ slice_get ids 0
first_is list [] apart = rw (eq-eqb list list refl) refl
first_is list (x ∷ xs) apart = rw (ne_eqb x list (apart x (here x xs))) refl

pub last_is : (list : ℕ) (ids : List ℕ) → ((k : ℕ) → Contains ids k → k ≢ list) → cond (eqb (last_from list ids) list) None (Some (last_from list ids)) ≡ last_in ids
last_is list [] apart = rw (eq-eqb list list refl) refl
last_is list (x ∷ xs) apart = rw (ne_eqb (last_from x xs) list (apart (last_from x xs) (last_there x xs))) refl

module _ (s : Slab Node) (a : Arena) (shown : Shows s a) where
  pub ring_for : (key list : ℕ) → key ≡ list → (ids : List ℕ) → list_of a list ≡ Some ids → IsRing (get s) key ids
  ring_for key list same ids is = ring_of_list s shown.held key ids (shown.lists key ∙ ap (list_of a) same ∙ is)

  pub some_ring : (key list : ℕ) → key ≡ list → is_some (list_of a list) ≡ true → (ids : List ℕ) × IsRing (get s) key ids
  some_ring key list same some = ring_there s shown.held key (ap is_some (shown.lists key ∙ ap (list_of a) same) ∙ some)

  pub has_head : (key list : ℕ) → key ≡ list → is_some (list_of a list) ≡ true → ContainsKey s key
  has_head key list same some = let there = some_ring key list same some in node_there (get s) (λ n. n.list) key key there.1.head

  pub has_span : (key at : ℕ) → key ≡ at → is_some (span_of a at) ≡ true → is_some (span_at (get s) key) ≡ true
  has_span key at same some = ap is_some (sym (span_of_view s key) ∙ shown.spans key ∙ ap (span_of a) same) ∙ some

  pub has_node : (key at : ℕ) → key ≡ at → is_some (span_of a at) ≡ true → ContainsKey s key
  has_node key at same some =
      let live = has_span key at same some in
      some_there (get s) (λ n. n.span) key (ap is_some (sym (live_value (get s) key live)) ∙ live)

  pub span_is : (key at : ℕ) → key ≡ at → is_some (span_of a at) ≡ true → (node : Node) → get s key ≡ Some node → span_of a at ≡ Some node.span
  span_is key at same some node found =
      sym (ap (span_of a) same) ∙ sym (shown.spans key) ∙ span_of_view s key
      ∙ live_value (get s) key (has_span key at same some)
      ∙ ap (λ (o : Option Node). option_map (λ n. n.span) o) found

  -- what a list's head leads to
  pub first_there : (key list : ℕ) → key ≡ list → (ids : List ℕ) → list_of a list ≡ Some ids → (node : Node) → get s key ≡ Some node → cond (eqb node.next key) None (Some node.next) ≡ slice_get ids 0
  first_there key list same ids is node found =
      let ring = ring_for key list same ids is in
      ap (λ (k : ℕ). cond (eqb k key) None (Some k)) (field_is (get s) (λ n. n.next) key node (first_or ids key) found (chain_first (get s) key key ids key ring.chain).0)
      ∙ first_is key ids (apart_from_first key ids ring.distinct)

  pub last_there_of : (key list : ℕ) → key ≡ list → (ids : List ℕ) → list_of a list ≡ Some ids → (node : Node) → get s key ≡ Some node → cond (eqb node.previous key) None (Some node.previous) ≡ last_in ids
  last_there_of key list same ids is node found =
      let ring = ring_for key list same ids is in
      ap (λ (k : ℕ). cond (eqb k key) None (Some k)) (field_is (get s) (λ n. n.previous) key node (last_from key ids) found (chain_last (get s) key key ids key ring.chain).1)
      ∙ last_is key ids (apart_from_first key ids ring.distinct)

  -- a list with a place in it, seen by the key of the place
  pub ring_at : (list_key key list at : ℕ) → list_key ≡ list → key ≡ at → (front back : List ℕ) → list_of a list ≡ Some (front ++ at ∷ back) → IsRing (get s) list_key (front ++ key ∷ back)
  ring_at list_key key list at same_list same front back is =
      subst (λ (k : ℕ). IsRing (get s) list_key (front ++ k ∷ back)) (sym same) (ring_for list_key list same_list (front ++ at ∷ back) is)

  -- what a span leads to, on and back
  pub next_there : (key list at : ℕ) → key ≡ at → (front back : List ℕ) → list_of a list ≡ Some (front ++ at ∷ back) → (node : Node) → get s key ≡ Some node → cond (eqb node.next node.list) None (Some node.next) ≡ slice_get back 0
  next_there key list at same front back is node found =
      let ring = ring_at list key list at refl same front back is in
      ap (λ (l : ℕ). cond (eqb node.next l) None (Some node.next)) (field_is (get s) (λ n. n.list) key node list found (key_in (get s) list front key back ring))
      ∙ ap (λ (k : ℕ). cond (eqb k list) None (Some k)) (field_is (get s) (λ n. n.next) key node (first_or back list) found (key_between (get s) list front key back ring).1.0)
      ∙ first_is list back (λ k there. apart_from_first list (front ++ key ∷ back) ring.distinct k (Contains-append_right front (key ∷ back) k (Contains-cons key k back there)))

  pub previous_there : (key list at : ℕ) → key ≡ at → (front back : List ℕ) → list_of a list ≡ Some (front ++ at ∷ back) → (node : Node) → get s key ≡ Some node → cond (eqb node.previous node.list) None (Some node.previous) ≡ last_in front
  previous_there key list at same front back is node found =
      let ring = ring_at list key list at refl same front back is in
      ap (λ (l : ℕ). cond (eqb node.previous l) None (Some node.previous)) (field_is (get s) (λ n. n.list) key node list found (key_in (get s) list front key back ring))
      ∙ ap (λ (k : ℕ). cond (eqb k list) None (Some k)) (field_is (get s) (λ n. n.previous) key node (last_from list front) found (key_between (get s) list front key back ring).0.1)
      ∙ last_is list front (λ k there. apart_from_first list (front ++ key ∷ back) ring.distinct k (Contains-append_left front (key ∷ back) k there))

  -- a change of the nodes, as a change of what contracts see
  pub lists_for : (b : Arena) (key list : ℕ) → key ≡ list → (x : Option (List ℕ)) → SetsList (view_of s) b key x → SetsList a b list x
  lists_for b key list same x sets =
      subst (λ (l : ℕ). SetsList a b l x) same (record { set = sets.set; others = λ other differs. sets.others other differs ∙ shown.lists other })

  pub spans_for : (b : Arena) (key at : ℕ) → key ≡ at → (x : Option Span) → SetsSpan (view_of s) b key x → SetsSpan a b at x
  spans_for b key at same x sets =
      subst (λ (l : ℕ). SetsSpan a b l x) same (record { set = sets.set; others = λ other differs. sets.others other differs ∙ shown.spans other })

  pub same_spans_for : (b : Arena) → SameSpans (view_of s) b → SameSpans a b
  same_spans_for b same = λ at. same at ∙ shown.spans at

  -- the end of a list, as a place in it
  pub end_ring : (key : ℕ) (ids : List ℕ) → IsRing (get s) key ids → IsRing (get s) key (ids ++ [])
  end_ring key ids ring = subst (IsRing (get s) key) (sym (append-nil ids)) ring

  -- a span that came in
  module _ (t : Slab Node) (key : ℕ) (front rest : List ℕ) (ring : IsRing (get s) key (front ++ rest)) (new : ℕ) (span : Span) (put : (before : ℕ) → IsLinked (get s) before (first_or rest key) → IsPut (get s) (get t) key before (first_or rest key) new span) where
    put_there : IsPut (get s) (get t) key (last_from key front) (first_or rest key) new span
    put_there = put (last_from key front) (linked (get s) key front rest ring)

    pub placed_held : IsHeld (get t)
    placed_held = put_held (get s) (get t) key front rest ring new span put_there shown.held

    pub placed_lists : (list : ℕ) → key ≡ list → SetsList a (view_of t) list (Some (front ++ new ∷ rest))
    placed_lists list same = lists_for (view_of t) key list same (Some (front ++ new ∷ rest)) (put_lists s t key front rest ring new span put_there shown.held)

    pub placed_spans : SetsSpan a (view_of t) new (Some span)
    placed_spans = spans_for (view_of t) new new refl (Some span) (put_spans s t key front rest ring new span put_there shown.held)

    pub placed_fresh : span_of a new ≡ None
    placed_fresh = sym (shown.spans new) ∙ put_fresh s t key front rest ring new span put_there shown.held

  -- a span that went out
  module _ (t : Slab Node) (list_key : ℕ) (front : List ℕ) (key : ℕ) (back : List ℕ) (ring : IsRing (get s) list_key (front ++ key ∷ back)) (cut : (before after : ℕ) → IsBetween (get s) before key after → IsCut (get s) (get t) before after key) where
    cut_there : IsCut (get s) (get t) (last_from list_key front) (first_or back list_key) key
    cut_there = cut (last_from list_key front) (first_or back list_key) (key_between (get s) list_key front key back ring)

    pub taken_held : IsHeld (get t)
    taken_held = cut_held (get s) list_key front key back ring (get t) cut_there shown.held

    pub taken_lists : (list : ℕ) → list_key ≡ list → SetsList a (view_of t) list (Some (front ++ back))
    taken_lists list same = lists_for (view_of t) list_key list same (Some (front ++ back)) (cut_lists s t list_key front key back ring cut_there shown.held)

    pub taken_spans : (at : ℕ) → key ≡ at → SetsSpan a (view_of t) at None
    taken_spans at same = spans_for (view_of t) key at same None (cut_spans s t list_key front key back ring cut_there shown.held)

    pub taken_span : (at : ℕ) → key ≡ at → (span : Span) → value_in (get s) key ≡ Some span → span_of a at ≡ Some span
    taken_span at same span value = sym (ap (span_of a) same) ∙ sym (shown.spans key) ∙ cut_span s t list_key front key back ring cut_there shown.held span value

  -- what contracts see is sound
  pub sound : IsSound a
  sound = record {
    live = λ list at inside.
        let ids = inside.0 ++ at ∷ inside.1 in
        let ring = ring_for list list refl ids inside.2 in
        let of = in_list list at inside in
        ap is_some (sym (shown.spans at) ∙ span_of_view s at)
        ∙ ap (λ (b : Bool). is_some (cond b None (value_in (get s) at))) (test_other (get s) at list of (λ same. apart_from_first list ids ring.distinct at (Contains-append_right inside.0 (at ∷ inside.1) at (here at inside.1)) (sym same)))
        ∙ value_there (get s at) list of;
    once = λ list ids is. IsDistinct-tail eqb list ids (ring_for list list refl ids is).distinct;
    alone = λ list other at inside second. same_Some list other (sym (in_list list at inside) ∙ in_list other at second);
    listed = λ at some. list_there at (has_span at at refl some) (get s at) refl;
  }
    where
      value_there : (o : Option Node) (l : ℕ) → option_map (λ n. n.list) o ≡ Some l → is_some (option_map (λ n. n.span) o) ≡ true
      value_there None l is = absurd (cc)
      value_there (Some node) l is = refl

      in_list : (list at : ℕ) → IsIn a list at → list_in (get s) at ≡ Some list
      in_list list at inside = key_in (get s) list inside.0 at inside.1 (ring_for list list refl (inside.0 ++ at ∷ inside.1) inside.2)

      list_there : (at : ℕ) → is_some (span_at (get s) at) ≡ true → (o : Option Node) → get s at ≡ o → (list : ℕ) × IsIn a list at
      list_there at live None vacant =
          absurd (let none = ap is_some (live_value (get s) at live ∙ ap (λ (o : Option Node). option_map (λ n. n.span) o) vacant) in cc)
      list_there at live (Some node) found =
          let of : list_in (get s) at ≡ Some node.list = ap (λ (o : Option Node). option_map (λ n. n.list) o) found in
          let there = shown.held at node.list of in
          elim (Contains-cons_cases node.list at there.0 there.2) [
            | inl same ↦ absurd (let none = ap (λ (b : Bool). is_some (cond b None (value_in (get s) at))) (test_head (get s) at (of ∙ ap Some same)) in cc)
            | inr inside ↦
                let split = split_at there.0 at inside in
                (node.list, (split.0, split.1, sym (shown.lists node.list) ∙ list_of_ring s node.list there.0 there.1 ∙ ap Some split.2))
          ]
