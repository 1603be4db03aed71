-- A list after a removal.
use Rattle.std.proofs.Common.{◌≡◌, ℕ, zero, suc, ◌+◌, List, [], ◌∷◌, ◌++◌, map, length, take, drop, Option, Some, None, refl, subst, sym, ap, ◌∙◌, inl, inr, arith, Contains, eqb, is_some, true}
use Rattle.std.specs.Prelude.{IfSome, slice_get}
use Rattle.std.specs.List.{IsDistinct, remove}
use Rattle.std.specs.Map.{keys_of}
use Rattle.std.proofs.lemmas.Bool.{cases_eq}
use Rattle.std.proofs.lemmas.List.{map-append, length-append, take-map, drop-map}
use Rattle.std.proofs.lemmas.Option.{same_Some}
use Rattle.slab.specs.Slab.{Slab, get, slab_len, Updates}
use Rattle.client_list.specs.declared.links.Node.{Node}
use Rattle.client_list.specs.Connected.{index_of}
use Rattle.client_list.specs.Links.{Entry, along, listed, node_of, positions_in, pairs_in, IsChain, IsHeld, NextChanged, PreviousChanged}
use Rattle.client_list.specs.DistinctLemmas.{distinct_left, distinct_right, distinct_between, distinct_without, apart_from_first}
use Rattle.client_list.specs.IndexLemmas.{index_here, index_there, among_others}
use Rattle.client_list.proofs.ChainLemmas.{listed-held}
use Rattle.client_list.proofs.ChangeLemmas.{Parts, chain-split, chain-join, chain-elsewhere, chain-end, chain-start, chain-beside_next, chain-beside_previous, end_there, start_there, end_has, start_has}

module _ {X : Type 0} where
  -- a list is what is before an index, the element with the index and what is behind it
  pub whole_at : (xs : List X) (i : ℕ) (x : X) → slice_get xs i ≡ Some x → xs ≡ take i xs ++ x ∷ drop (suc i) xs
  whole_at [] i x found = absurd (cc)
  whole_at (y ∷ ys) zero x found = ap (λ (z : X). z ∷ ys) (same_Some y x found)
  whole_at (y ∷ ys) (suc i) x found = ap (λ (l : List X). y ∷ l) (whole_at ys i x found)

pub map-remove : {X Y : Type 0} (f : X → Y) (xs : List X) (i : ℕ) → map f (remove xs i) ≡ remove (map f xs) i
map-remove {X} {Y} f xs i =
    map-append f (take i xs) (drop (suc i) xs)
    ∙ ap (λ (l : List Y). l ++ map f (drop (suc i) xs)) (sym (take-map f i xs))
    ∙ ap (λ (l : List Y). take i (map f xs) ++ l) (sym (drop-map f (suc i) xs))

module _ {T : Type 0} where
  -- the entry of a position
  pub record EntryAt (es : List (Entry T)) (position : ℕ) : Type 0 where
    pub entry : Entry T
    pub found : slice_get es (index_of (positions_in es) position) ≡ Some entry
    pub is : entry.0 ≡ position

  pub entry_at : (es : List (Entry T)) (position : ℕ) → Contains (positions_in es) position → EntryAt es position
  entry_at [] position there = absurd (omega (arith, there.1))
  entry_at (e ∷ rest) position there =
      elim (cases_eq e.0 position) [
        | inl same ↦ record { entry = e; found = ap (slice_get (e ∷ rest)) (index_here position e.0 (positions_in rest) same); is = same }
        | inr differs ↦
            let later = entry_at rest position (among_others position e.0 (positions_in rest) differs there) in
            record { entry = later.entry; found = ap (slice_get (e ∷ rest)) (index_there position e.0 (positions_in rest) differs) ∙ later.found; is = later.is }
      ]

  module _ (old mid : Slab (Node T)) (first last : Option ℕ) (held : IsHeld old first last) (i : ℕ) (e : Entry T) (found : slice_get held.entries i ≡ Some e) (node : Node T) (there : get old e.0 ≡ Some node) (gone : Updates old mid e.0 None) where
    abbrev before : List (Entry T)
    before = take i held.entries

    abbrev behind : List (Entry T)
    behind = drop (suc i) held.entries

    positions_apart : IsDistinct eqb (positions_in before ++ e.0 ∷ positions_in behind)
    positions_apart = subst (IsDistinct eqb) (ap positions_in (whole_at held.entries i e found) ∙ map-append (λ x. x.0) before (e ∷ behind)) held.positions

    numbers_parts : (xs ys : List (Entry T)) → keys_of (pairs_in (xs ++ ys)) ≡ keys_of (pairs_in xs) ++ keys_of (pairs_in ys)
    numbers_parts xs ys = ap keys_of (map-append (λ x. x.1) xs ys) ∙ map-append (λ x. x.0) (pairs_in xs) (pairs_in ys)

    numbers_apart : IsDistinct eqb (keys_of (pairs_in before) ++ e.1.0 ∷ keys_of (pairs_in behind))
    numbers_apart = subst (IsDistinct eqb) (ap (λ (es : List (Entry T)). keys_of (pairs_in es)) (whole_at held.entries i e found) ∙ numbers_parts before (e ∷ behind)) held.numbers

    away_before : Contains (positions_in before) e.0 → ⊥
    away_before inside = distinct_between (positions_in before) (e.0 ∷ positions_in behind) positions_apart e.0 e.0 inside (0, omega arith, refl) refl

    away_behind : Contains (positions_in behind) e.0 → ⊥
    away_behind inside = apart_from_first e.0 (positions_in behind) (distinct_right (positions_in before) (e.0 ∷ positions_in behind) positions_apart) e.0 inside refl

    apart : (p : ℕ) → Contains (positions_in before) p → Contains (positions_in behind) p → ⊥
    apart p left right = distinct_between (positions_in before) (positions_in behind) (distinct_without (positions_in before) e.0 (positions_in behind) positions_apart) p p left right refl

    parts : Parts (get old) None first before (e ∷ behind) last None
    parts = chain-split (get old) None first last None before (e ∷ behind) (subst (λ (es : List (Entry T)). IsChain (get old) None first es last None) (whole_at held.entries i e found) held.chain)

    node_is : node_of e.1 parts.back parts.back_part.1 ≡ node
    node_is = same_Some (node_of e.1 parts.back parts.back_part.1) node (sym parts.back_part.2 ∙ there)

    front : IsChain (get mid) None first before node.previous parts.on
    front =
        chain-elsewhere old mid e.0 None None first node.previous parts.on before gone away_before
        (subst (λ (l : Option ℕ). IsChain (get old) None first before l parts.on) (ap (λ (n : Node T). n.previous) node_is) parts.front_part)

    back : IsChain (get mid) (Some e.0) node.next behind last None
    back =
        chain-elsewhere old mid e.0 None (Some e.0) node.next last None behind gone away_behind
        (subst (λ (l : Option ℕ). IsChain (get old) (Some e.0) l behind last None) (ap (λ (n : Node T). n.next) node_is) parts.back_part.3)

    pub previous_has : IfSome node.previous (λ p. is_some (get mid p) ≡ true)
    previous_has = end_has (get mid) first node.previous parts.on before front

    module _ (joined : Slab (Node T)) (first' : Option ℕ) (next_changed : NextChanged mid joined first first' node.previous node.next) where
      front_joined : IsChain (get joined) None first' before node.previous node.next
      front_joined = chain-end mid joined first first' node.previous parts.on node.next before (distinct_left (positions_in before) (e.0 ∷ positions_in behind) positions_apart) next_changed front

      back_joined : IsChain (get joined) (Some e.0) node.next behind last None
      back_joined =
          chain-beside_next mid joined first first' node.previous node.next (Some e.0) node.next last None behind next_changed
          (λ p is inside. apart p (end_there (get mid) first node.previous parts.on before p front is) inside)
          back

      pub next_has : IfSome node.next (λ p. is_some (get joined p) ≡ true)
      next_has = start_has (get joined) (Some e.0) node.next last behind back_joined

      pub removed_held : (new : Slab (Node T)) (last' : Option ℕ) → PreviousChanged joined new last last' node.next node.previous → slab_len mid + 1 ≡ slab_len old → slab_len joined ≡ slab_len mid → slab_len new ≡ slab_len joined → IsHeld new first' last'
      removed_held new last' previous_changed len len' len'' =
          let final_back = chain-start joined new (Some e.0) node.previous node.next last last' behind (distinct_right (positions_in before) (positions_in behind) (distinct_without (positions_in before) e.0 (positions_in behind) positions_apart)) previous_changed back_joined in
          let final_front =
          chain-beside_previous joined new last last' node.next node.previous None first' node.previous node.next before previous_changed
          (λ p is inside. apart p inside (start_there (get joined) (Some e.0) node.next last behind p back_joined is))
          front_joined in
          record {
            entries = remove held.entries i;
            chain = chain-join (get new) None first' node.previous node.next last' None before behind final_front final_back;
            count = omega (arith, ap length (whole_at held.entries i e found), length-append before (e ∷ behind), length-append before behind, held.count, len, len', len'');
            positions = subst (IsDistinct eqb) (sym (map-append (λ x. x.0) before behind)) (distinct_without (positions_in before) e.0 (positions_in behind) positions_apart);
            numbers = subst (IsDistinct eqb) (sym (numbers_parts before behind)) (distinct_without (keys_of (pairs_in before)) e.1.0 (keys_of (pairs_in behind)) numbers_apart);
          }

      pub removed_view : (new : Slab (Node T)) (last' : Option ℕ) → PreviousChanged joined new last last' node.next node.previous → slab_len mid + 1 ≡ slab_len old → slab_len joined ≡ slab_len mid → slab_len new ≡ slab_len joined → listed (along (get new) (slab_len new) first') ≡ listed (remove held.entries i)
      unfolding removed_held
      removed_view new last' changed len len' len'' = listed-held new first' last' (removed_held new last' changed len len' len'')
