-- A list after a write to one value, and with one more viewer.
use Rattle.std.proofs.Common.{◌≡◌, ℕ, ◌+◌, List, [], ◌∷◌, ◌++◌, cond, Option, Some, None, refl, subst, sym, ap, ◌∙◌, arith, Contains, eqb, is_some, true}
use Rattle.std.specs.Prelude.{IfSome}
use Rattle.std.specs.HashMap.{HashMap}
use Rattle.std.specs.HashMap as hash
use Rattle.std.specs.List.{IsDistinct}
use Rattle.std.specs.Map.{keys_of}
use Rattle.std.proofs.lemmas.List.{map-append, length-append}
use Rattle.std.proofs.lemmas.List.Sums.{sum_by-set}
use Rattle.slab.specs.Slab.{Slab, get, slab_len, with_value as with_slot, Updates, SameValues}
use Rattle.slab.proofs.SlabLemmas.{ContainsKey-within}
use Rattle.client_list.specs.declared.links.Node.{Node}
use Rattle.client_list.specs.Connected.{Connected, index_of, with_value, set_value_at}
use Rattle.client_list.specs.Links.{Entry, along, node_of, positions_in, pairs_in, listed, linked, IsChain, IsHeld, IsByNumber, IsRecent, NextChanged}
use Rattle.client_list.specs.DistinctLemmas.{distinct_push}
use Rattle.client_list.proofs.ChainLemmas.{listed-held}
use Rattle.client_list.proofs.ChangeLemmas.{set_entry, positions-set_entry, pairs-set_entry, numbers-set_entry, length-set_entry, chain-set, chain-kept, chain-has, chain-elsewhere, chain-end, chain-join, beside_next, end_there, end_has}
use Rattle.client_list.proofs.LinkLemmas.{node_written}
use Rattle.client_list.proofs.ByNumberLemmas.{by_number-set, by_number-push}
use Rattle.client_list.proofs.CallLemmas.{Shows, is_listed}

module _ {T : Type 0} where
  -- a write to an occupied key occupies no other
  slab_len-with_slot : (s : Slab (Node T)) (key : ℕ) (old new : Node T) → get s key ≡ Some old → slab_len (with_slot s key new) ≡ slab_len s
  slab_len-with_slot s key old new found =
      omega (
        arith,
        sum_by-set (λ o. cond (is_some o) 1 0) s.slots key (Some new) None (ContainsKey-within s key (ap is_some found)),
        ap {B = ℕ} (λ (o : Option (Node T)). cond (is_some o) 1 0) found,
      )

  module _ (nodes : Slab (Node T)) (first last : Option ℕ) (value : Connected T) (shown : Shows nodes first last value) (position key : ℕ) (same : key ≡ position) (node : Node T) (found : get nodes key ≡ Some node) (w : T) where
    -- a write to one value leaves a list
    pub set_held : IsHeld (with_slot nodes key (record node { value = w })) first last
    set_held =
        let es : List (Entry T) = shown.held.entries in
        let i : ℕ = index_of (positions_in es) position in
        let new : Slab (Node T) = with_slot nodes key (record node { value = w }) in
        record {
          entries = set_entry es i w;
          chain = chain-set nodes new position node (sym (ap (get nodes) same) ∙ found) w (node_written nodes key position node same found (record node { value = w })) None first last None es shown.held.positions shown.held.chain;
          count = length-set_entry es i w ∙ shown.held.count ∙ sym (slab_len-with_slot nodes key node (record node { value = w }) found);
          positions = subst (IsDistinct eqb) (sym (positions-set_entry es i w)) shown.held.positions;
          numbers = subst (IsDistinct eqb) (sym (numbers-set_entry es i w)) shown.held.numbers;
        }

    pub set_view : linked (with_slot nodes key (record node { value = w })) first ≡ with_value value (index_of value.positions position) w
    unfolding set_held
    set_view =
        let es : List (Entry T) = shown.held.entries in
        let i : ℕ = index_of (positions_in es) position in
        listed-held (with_slot nodes key (record node { value = w })) first last set_held
        ∙ ap (λ (ps : List (ℕ × T)). the_record ps (positions_in (set_entry es i w))) (pairs-set_entry es i w)
        ∙ ap (the_record (set_value_at (pairs_in es) i w)) (positions-set_entry es i w)
        ∙ sym (ap (λ (v : Connected T). with_value v (index_of v.positions position) w) shown.is)
      where
        the_record : List (ℕ × T) → List ℕ → Connected T
        the_record ps positions = record { pairs = ps; positions = positions }

    pub set_by_number : {S : Type 0} (by_number : HashMap ℕ ℕ S) → IsByNumber by_number value → IsByNumber by_number (linked (with_slot nodes key (record node { value = w })) first)
    set_by_number by_number finds = subst (IsByNumber by_number) (sym set_view) (by_number-set by_number value finds (index_of value.positions position) w)

    pub set_recent : (recent : Option ℕ) → IsRecent recent value → IsRecent recent (linked (with_slot nodes key (record node { value = w })) first)
    set_recent recent there = subst (IsRecent recent) (sym set_view) (there)

  -- the same nodes are the same list
  pub same_held : (old new : Slab (Node T)) (first last : Option ℕ) → IsHeld old first last → SameValues old new → slab_len new ≡ slab_len old → IsHeld new first last
  same_held old new first last held values len = record {
    entries = held.entries;
    chain = chain-kept (get old) (get new) None first last None held.entries (λ p there. values p) held.chain;
    count = held.count ∙ sym len;
    positions = held.positions;
    numbers = held.numbers;
  }

  pub same_linked : (old new : Slab (Node T)) (first : Option ℕ) → SameValues old new → slab_len new ≡ slab_len old → linked old first ≡ linked new first
  same_linked old new first values len = sym (λ i. listed (along (λ p. values p i) (len i) first))

  module _ (old mid : Slab (Node T)) (first last : Option ℕ) (seen : Connected T) (shown : Shows old first last seen) (k number : ℕ) (value : T) (vacant : get old k ≡ None) (added : Updates old mid k (Some (node_of (number, value) last None))) where
    abbrev es : List (Entry T)
    es = shown.held.entries

    -- a vacant key is no position
    k_away : Contains (positions_in es) k → ⊥
    k_away there =
        let has = chain-has (get old) None first last None es k shown.held.chain there in
        let none = ap is_some vacant in absurd (cc)

    mid_chain : IsChain (get mid) None first es last None
    mid_chain = chain-elsewhere old mid k (Some (node_of (number, value) last None)) None first last None es added k_away shown.held.chain

    pub last_has : IfSome last (λ p. is_some (get mid p) ≡ true)
    last_has = end_has (get mid) first last None es mid_chain

    abbrev pushed : List (Entry T)
    pushed = es ++ (k, (number, value)) ∷ []

    pairs-pushed : pairs_in pushed ≡ pairs_in es ++ (number, value) ∷ []
    pairs-pushed = map-append (λ e. e.1) es ((k, (number, value)) ∷ [])

    positions-pushed : positions_in pushed ≡ positions_in es ++ k ∷ []
    positions-pushed = map-append (λ e. e.0) es ((k, (number, value)) ∷ [])

    module _ (new : Slab (Node T)) (first' : Option ℕ) (changed : NextChanged mid new first first' last (Some k)) (len : slab_len mid ≡ slab_len old + 1) (len' : slab_len new ≡ slab_len mid) (free : Contains (keys_of seen.pairs) number → ⊥) where
      -- one more viewer behind all others
      pub pushed_held : IsHeld new first' (Some k)
      pushed_held =
          let front = chain-end mid new first first' last None (Some k) es shown.held.positions changed mid_chain in
          let stays = beside_next mid new first first' last (Some k) k changed (λ is. k_away (end_there (get old) first last None es k shown.held.chain is)) in
          record {
            entries = pushed;
            chain = chain-join (get new) None first' last (Some k) (Some k) None es ((k, (number, value)) ∷ []) front (refl, None, stays ∙ added.changed, (refl, refl));
            count = omega (arith, length-append es ((k, (number, value)) ∷ []), shown.held.count, len, len');
            positions = subst (IsDistinct eqb) (sym positions-pushed) (distinct_push (positions_in es) k k_away shown.held.positions);
            numbers =
                subst
                (IsDistinct eqb)
                (sym (ap keys_of pairs-pushed ∙ map-append (λ pair. pair.0) (pairs_in es) ((number, value) ∷ [])))
                (distinct_push (keys_of (pairs_in es)) number (λ there. free (subst (λ (v : Connected T). Contains (keys_of v.pairs) number) (sym shown.is) there)) shown.held.numbers);
          }

      pushed_view : linked new first' ≡ listed pushed
      unfolding pushed_held
      pushed_view = listed-held new first' (Some k) pushed_held

      pub pushed_pairs : (linked new first').pairs ≡ seen.pairs ++ (number, value) ∷ []
      pushed_pairs =
          ap (λ (v : Connected T). v.pairs) pushed_view
          ∙ pairs-pushed
          ∙ ap (λ (v : Connected T). v.pairs ++ (number, value) ∷ []) (sym shown.is)

      pub pushed_positions : (linked new first').positions ≡ seen.positions ++ k ∷ []
      pushed_positions =
          ap (λ (v : Connected T). v.positions) pushed_view
          ∙ positions-pushed
          ∙ ap (λ (v : Connected T). v.positions ++ k ∷ []) (sym shown.is)

      pub pushed_by_number : {S : Type 0} (by_number by_number' : HashMap ℕ ℕ S) → IsByNumber by_number seen → hash.Updates eqb by_number by_number' number (Some k) → IsByNumber by_number' (linked new first')
      pushed_by_number by_number by_number' finds updates =
          by_number-push by_number seen finds by_number' (linked new first') (is_listed old first last seen shown) number value k updates free pushed_pairs pushed_positions
