-- A clone of the slab has the same nodes.
use Rattle.std.proofs.Common.{◌≡◌, ℕ, List, [], ◌∷◌, Option, Some, None, refl, sym, ap, ◌∙◌, subst}
use Rattle.std.specs.List.{AllZip}
use Rattle.slab.specs.Slab.{Slab, get, IsSlotClone, IsSlabClone}
use Rattle.std.specs.Prelude.{slice_index_or, length}
use Rattle.span_arena.specs.declared.nodes.Node.{Node}
use Rattle.span_arena.specs.Links.{from_key, list_at, span_at, view_of, IsHeld}

module _ {T : Type 0} (is_clone : T → T → Type 0) (same : (x y : T) → is_clone x y → y ≡ x) where
  pub same_slots : (xs ys : List (Option T)) → AllZip (IsSlotClone is_clone) xs ys → ys ≡ xs
  same_slots [] [] all = refl
  same_slots [] (y ∷ ys) all = absurd all
  same_slots (x ∷ xs) [] all = absurd all
  same_slots (None ∷ xs) (y ∷ ys) all = rw all.0 (ap (λ (l : List (Option T)). None ∷ l) (same_slots xs ys all.1))
  same_slots (Some x ∷ xs) (None ∷ ys) all = absurd all.0
  same_slots (Some x ∷ xs) (Some y ∷ ys) all = ap (λ (a : T). Some a ∷ ys) (same x y all.0) ∙ ap (λ (l : List (Option T)). Some x ∷ l) (same_slots xs ys all.1)

module _ (s t : Slab Node) (same : t.slots ≡ s.slots) where
  pub cloned_held : IsHeld (get s) → IsHeld (get t)
  cloned_held held = subst (λ (l : List (Option Node)). IsHeld (λ key. slice_index_or l key None)) (sym same) held

  pub cloned_lists : (view_of t).lists ≡ (view_of s).lists
  cloned_lists = ap (λ (l : List (Option Node)). from_key (list_at (λ key. slice_index_or l key None) (length l)) 0 (length l)) same

  pub cloned_spans : (view_of t).spans ≡ (view_of s).spans
  cloned_spans = ap (λ (l : List (Option Node)). from_key (span_at (λ key. slice_index_or l key None)) 0 (length l)) same
