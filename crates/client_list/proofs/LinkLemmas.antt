-- What a change of one link leaves.
use Rattle.std.proofs.Common.{◌≡◌, ℕ, Option, Some, refl, subst, sym, ap, ◌∙◌, is_some}
use Rattle.slab.specs.Slab.{Slab, get, with_value, Updates}
use Rattle.slab.proofs.SlabLemmas.{Updates-with_value}
use Rattle.client_list.specs.declared.links.Node.{Node}
use Rattle.client_list.specs.Links.{NextChanged, PreviousChanged}

module _ {T : Type 0} (old : Slab (Node T)) (key p : ℕ) (node : Node T) (same : key ≡ p) (found : get old key ≡ Some node) where
  -- a write to the node at a key
  pub node_written : (new : Node T) → Updates old (with_value old key new) p (Some new)
  node_written new = subst (λ (k : ℕ). Updates old (with_value old key new) k (Some new)) same (Updates-with_value old key new (ap is_some found))

  pub next_written : (first position next : Option ℕ) → position ≡ Some p → NextChanged old (with_value old key (record node { next = next })) first first position next
  next_written first position next is = rw is (refl, node, sym (ap (get old) same) ∙ found, node_written (record node { next = next }))

  pub previous_written : (last position previous : Option ℕ) → position ≡ Some p → PreviousChanged old (with_value old key (record node { previous = previous })) last last position previous
  previous_written last position previous is = rw is (refl, node, sym (ap (get old) same) ∙ found, node_written (record node { previous = previous }))
