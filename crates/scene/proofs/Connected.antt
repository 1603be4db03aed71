-- A screen's seats and the viewers that they stand for.
use Rattle.std.proofs.Common.{◌≡◌, ℕ, false, List, [], ◌∷◌, map, Option, Some, None, refl, sym, ◌∙◌, ap, subst, eqb}
use Rattle.std.specs.Prelude.{find, ◌==◌}
use Rattle.std.specs.List.{list_any, AllByRecursion, IsDistinct}
use Rattle.std.specs.Map.{keys_of, lookup}
use Rattle.std.specs.Option.{option_map}
use Rattle.std.proofs.lemmas.Map.Keys.{IsDistinct-cons}
use Rattle.messages.specs.Reading.{Rest}
use Rattle.client_list.specs.Connected.{index_of, set_value_at}
use Rattle.client_list.specs.DistinctLemmas.{distinct_none}
use Rattle.client_list.specs.CallerLemmas.{set-number, find-lookup}
use Rattle.scene.specs.declared.Config.{Config}
use Rattle.scene.specs.declared.Event.{Event}
use Rattle.viewer.specs.Viewer.{KeptViewer, kept_viewer, Viewer}
use Rattle.scene.specs.Answers.{viewer_of, entry_of, scene_after}
use Rattle.scene.proofs.Owners.{replaced, state-find}
use Rattle.scene.proofs.Arrivals.{Distinct, distinct-viewers, or_parts, swap-eq}

abbrev Pair : Type 0
Pair = ℕ × Viewer Rest

-- the seat of the viewer with a number
abbrev pub viewer_numbered : List (ℕ × KeptViewer) → ℕ → Option KeptViewer
viewer_numbered pairs v = lookup (λ n. n == v) pairs

-- the seats once that of the viewer with a number is another
abbrev pub with_numbered : List (ℕ × KeptViewer) → ℕ → KeptViewer → List (ℕ × KeptViewer)
with_numbered pairs v new = set_value_at pairs (index_of (keys_of pairs) v) new

numbers-distinct : (ns : List ℕ) → Distinct ns → IsDistinct eqb ns
numbers-distinct [] h = distinct_none
numbers-distinct (n ∷ ns) h = IsDistinct-cons eqb n ns (go ns h.0) (numbers-distinct ns h.1)
  where
    go : (ms : List ℕ) → list_any (λ m. m == n) ms ≡ false → AllByRecursion (λ m. eqb n m ≡ false) ms
    go [] h = tt
    go (m ∷ ms) h = let parts = or_parts (m == n) (list_any (λ m. m == n) ms) h in (swap-eq m n parts.0, go ms parts.1)

-- the viewer that is kept with a number
pub found-viewer : (v : ℕ) (pairs : List (ℕ × KeptViewer)) → find (λ p. p.0 == v) pairs ≡ option_map {T = KeptViewer} {U = Pair} (λ w. (v, w)) (lookup (λ n. n == v) pairs)
found-viewer v pairs = find-lookup pairs v

-- the viewer that a seat stands for
pub record StandsFor (c : Config) (es : List Event) (v : ℕ) (s : KeptViewer) : Type 0 where
  pub was : Viewer (List ℕ)
  pub there : viewer_of c v es ≡ Some was
  pub as_kept : kept_viewer was ≡ s

some-entry : (v : ℕ) (o : Option (Viewer (List ℕ))) (w : Viewer Rest) → entry_of v o ≡ Some (v, w) → (was : Viewer (List ℕ)) × (o ≡ Some was) × (kept_viewer was ≡ w)
some-entry v None w e = absurd cc
some-entry v (Some was) w e = (was, refl, ap (λ (o : Option Pair). elim o [ None ↦ kept_viewer was | Some p ↦ p.1 ]) e)

pub stands-for : (c : Config) (es : List Event) (pairs : List (ℕ × KeptViewer)) (v : ℕ) (s : KeptViewer) → pairs ≡ (scene_after c es).viewers → viewer_numbered pairs v ≡ Some s → StandsFor c es v s
stands-for c es pairs v s h there =
    let viewer = some-entry v (viewer_of c v es) (s) (sym (state-find c es v) ∙ ap (find (λ p. p.0 == v)) (sym h) ∙ found-viewer v pairs ∙ ap (option_map {T = KeptViewer} {U = Pair} (λ w. (v, w))) there) in
    record { was = viewer.0; there = viewer.1; as_kept = viewer.2 }

pub stands-for_none : (c : Config) (es : List Event) (pairs : List (ℕ × KeptViewer)) (v : ℕ) → pairs ≡ (scene_after c es).viewers → viewer_numbered pairs v ≡ None → viewer_of c v es ≡ None
stands-for_none c es pairs v h away = none (viewer_of c v es) (sym (state-find c es v) ∙ ap (find (λ p. p.0 == v)) (sym h) ∙ found-viewer v pairs ∙ ap (option_map {T = KeptViewer} {U = Pair} (λ w. (v, w))) away)
  where
    none : (o : Option (Viewer (List ℕ))) → entry_of v o ≡ None → o ≡ None
    none None e = refl
    none (Some w) e = absurd cc

-- a viewer is changed where it is
pub numbered-set : (c : Config) (es : List Event) (pairs : List (ℕ × KeptViewer)) (v : ℕ) (new : KeptViewer) → pairs ≡ (scene_after c es).viewers
    → with_numbered pairs v new ≡ map (replaced v new) (scene_after c es).viewers
numbered-set c es pairs v new h =
    let distinct : IsDistinct eqb (keys_of pairs) = subst (λ (vs : List Pair). IsDistinct eqb (keys_of vs)) (sym h) (numbers-distinct (map (λ p. p.0) (scene_after c es).viewers) (distinct-viewers c es)) in
    set-number pairs v new distinct
    ∙ ap (map (replaced v new)) h
