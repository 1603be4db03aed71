-- What a removal leaves of the value that contracts see.
use Rattle.std.proofs.Common.{◌≡◌, ℕ, ◌+◌, Option, Some, None, subst, sym, ap, ◌∙◌, is_some, true, eqb}
use Rattle.std.specs.Prelude.{IfSome}
use Rattle.std.specs.List.{remove}
use Rattle.std.specs.HashMap.{HashMap}
use Rattle.std.specs.HashMap as hash
use Rattle.slab.specs.Slab.{Slab, get, slab_len, Updates}
use Rattle.client_list.specs.declared.links.Node.{Node}
use Rattle.client_list.specs.Connected.{Connected, index_of, index_of_number, IsPosition, IsPositionOf}
use Rattle.client_list.specs.Links.{linked, positions_in, listed, IsHeld, IsByNumber, NextChanged, PreviousChanged}
use Rattle.client_list.proofs.ByNumberLemmas.{by_number-remove}
use Rattle.client_list.proofs.CallLemmas.{Shows, is_listed}
use Rattle.client_list.proofs.RemovalLemmas.{EntryAt, entry_at, map-remove, previous_has, next_has, removed_held, removed_view}

module _ {T : Type 0} (old mid : Slab (Node T)) (first last : Option ℕ) (value : Connected T) (shown : Shows old first last value) (number position key : ℕ) (same : key ≡ position) (is : IsPositionOf value number position) (node : Node T) (found : get old key ≡ Some node) (gone : Updates old mid key None) where
  abbrev index : ℕ
  index = index_of (positions_in shown.held.entries) position

  entry : EntryAt shown.held.entries position
  entry = entry_at shown.held.entries position (subst (λ (v : Connected T). IsPosition v position) shown.is is.0)

  at_entry : key ≡ entry.entry.0
  at_entry = same ∙ sym entry.is

  found_there : get old entry.entry.0 ≡ Some node
  found_there = sym (ap (get old) at_entry) ∙ found

  gone_there : Updates old mid entry.entry.0 None
  gone_there = subst (λ (k : ℕ). Updates old mid k None) at_entry gone

  pub previous_there : IfSome node.previous (λ p. is_some (get mid p) ≡ true)
  previous_there = previous_has old mid first last shown.held index entry.entry entry.found node found_there gone_there

  module _ (joined : Slab (Node T)) (first' : Option ℕ) (next_changed : NextChanged mid joined first first' node.previous node.next) where
    pub next_there : IfSome node.next (λ p. is_some (get joined p) ≡ true)
    next_there = next_has old mid first last shown.held index entry.entry entry.found node found_there gone_there joined first' next_changed

    module _ (new : Slab (Node T)) (last' : Option ℕ) (previous_changed : PreviousChanged joined new last last' node.next node.previous) (len : slab_len mid + 1 ≡ slab_len old) (len' : slab_len joined ≡ slab_len mid) (len'' : slab_len new ≡ slab_len joined) where
      pub taken_held : IsHeld new first' last'
      taken_held = removed_held old mid first last shown.held index entry.entry entry.found node found_there gone_there joined first' next_changed new last' previous_changed len len' len''

      taken_view : linked new first' ≡ listed (remove shown.held.entries index)
      taken_view = removed_view old mid first last shown.held index entry.entry entry.found node found_there gone_there joined first' next_changed new last' previous_changed len len' len''

      pub taken_pairs : (linked new first').pairs ≡ remove value.pairs (index_of_number value number)
      taken_pairs =
          ap (λ (v : Connected T). v.pairs) taken_view
          ∙ map-remove (λ e. e.1) shown.held.entries index
          ∙ ap (λ (v : Connected T). remove v.pairs (index_of v.positions position)) (sym shown.is)
          ∙ ap (remove value.pairs) is.1

      pub taken_positions : (linked new first').positions ≡ remove value.positions (index_of_number value number)
      taken_positions =
          ap (λ (v : Connected T). v.positions) taken_view
          ∙ map-remove (λ e. e.0) shown.held.entries index
          ∙ ap (λ (v : Connected T). remove v.positions (index_of v.positions position)) (sym shown.is)
          ∙ ap (remove value.positions) is.1

      pub taken_by_number : {S : Type 0} (by_number by_number' : HashMap ℕ ℕ S) → IsByNumber by_number value → hash.Updates eqb by_number by_number' number None → IsByNumber by_number' (linked new first')
      taken_by_number by_number by_number' finds updates =
          by_number-remove by_number value finds by_number' (linked new first') (is_listed old first last value shown) number updates taken_pairs taken_positions
