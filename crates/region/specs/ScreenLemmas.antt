-- The rectangles of a canonical list have places, and what holds of each does so in another order too.
use Rattle.std.proofs.Common.{Bool, true, false, cond, List, [], ◌∷◌, ◌++◌, map, reverse, subst, sym}
use Rattle.std.specs.Prelude.{ℤ, ◌<ℤ◌, flat_map}
use Rattle.std.specs.Ordering.{int_eq}
use Rattle.std.specs.List.{AllByRecursion, All}
use Rattle.std.proofs.lemmas.List.{reverse-append}
use Rattle.std.proofs.lemmas.List.Elements.{All-from_recursion, recursion_from_All}
use Rattle.region.specs.declared.Rect.{Rect}
use Rattle.region.specs.Runs.{Run, AreRuns}
use Rattle.region.specs.Region.{Interval, Band, rects_of_band, rects_of_bands, IsBand, IsCanonical, beside, by_band, in_order}
use Rattle.region.specs.RunLemmas.{first_some, rest_runs}
use Rattle.region.specs.RectLemmas.{band_rect}
use Rattle.region.specs.OrderLemmas.{in_order-plain, in_order-both, in_order-bands}

module _ {X : Type 0} (P : X → Type 0) where
  all_append : (xs ys : List X) → AllByRecursion P xs → AllByRecursion P ys → AllByRecursion P (xs ++ ys)
  all_append [] ys h k = k
  all_append (x ∷ xs) ys h k = (h.0, all_append xs ys h.1 k)

  all_reverse : (xs : List X) → AllByRecursion P xs → AllByRecursion P (reverse xs)
  all_reverse [] h = tt
  all_reverse (x ∷ xs) h = subst (AllByRecursion P) (sym (reverse-append (x ∷ []) xs)) (all_append (reverse xs) (x ∷ []) (all_reverse xs h.1) (h.0, tt))

  all_reversed : (lines : List (List X)) → AllByRecursion (AllByRecursion P) lines → AllByRecursion P (flat_map reverse lines)
  all_reversed [] h = tt
  all_reversed (xs ∷ lines) h = all_append (reverse xs) (flat_map reverse lines) (all_reverse xs h.0) (all_reversed lines h.1)

module _ (P : Rect → Type 0) where
  all_beside : (r : Rect) (lines : List (List Rect)) → P r → AllByRecursion (AllByRecursion P) lines → AllByRecursion (AllByRecursion P) (beside r lines)
  all_beside r [] p h = ((p, tt), tt)
  all_beside r ([] ∷ lines) p h = ((p, tt), h.1)
  all_beside r ((q ∷ qs) ∷ lines) p h = elim (int_eq r.y1 q.y1) as (λ t. AllByRecursion (AllByRecursion P) (cond t ((r ∷ q ∷ qs) ∷ lines) ((r ∷ []) ∷ (q ∷ qs) ∷ lines))) [
    | true ↦ ((p, h.0), h.1)
    | false ↦ ((p, tt), h)
  ]

  all_by_band : (rs : List Rect) → AllByRecursion P rs → AllByRecursion (AllByRecursion P) (by_band rs)
  all_by_band [] h = tt
  all_by_band (r ∷ rs) h = all_beside r (by_band rs) h.0 (all_by_band rs h.1)

  -- what holds of each rectangle does so in any order
  ordered : (reverse_x reverse_y : Bool) (rs : List Rect) → AllByRecursion P rs → AllByRecursion P (in_order reverse_x reverse_y rs)
  ordered false false rs h = subst (AllByRecursion P) (sym (in_order-plain rs)) h
  ordered true true rs h = subst (AllByRecursion P) (sym (in_order-both rs)) (all_reverse P rs h)
  ordered true false rs h = all_reversed P (by_band rs) (all_by_band rs h)
  ordered false true rs h = subst (AllByRecursion P) (sym (in_order-bands rs)) (all_reverse P (in_order true false rs) (all_reversed P (by_band rs) (all_by_band rs h)))

  pub All-in_order : (reverse_x reverse_y : Bool) (rs : List Rect) → All P rs → All P (in_order reverse_x reverse_y rs)
  All-in_order reverse_x reverse_y rs h = All-from_recursion P (in_order reverse_x reverse_y rs) (ordered reverse_x reverse_y rs (recursion_from_All P rs h))

-- no rectangle is empty
abbrev pub HasPlaces : Rect → Type 0
HasPlaces r = (r.x1 <ℤ r.x2) × (r.y1 <ℤ r.y2)

some_runs : {V : Type 0} (rs : List (Run V)) → AreRuns rs → AllByRecursion (λ r. r.from <ℤ r.to) rs
some_runs [] h = tt
some_runs (r ∷ rs) h = (first_some r rs h, some_runs rs (rest_runs r rs h))

some_band : (top bottom : ℤ) (is : List Interval) → top <ℤ bottom → AllByRecursion (λ i. i.from <ℤ i.to) is → AllByRecursion HasPlaces (map (band_rect top bottom) is)
some_band top bottom [] rows h = tt
some_band top bottom (i ∷ is) rows h = ((h.0, rows), some_band top bottom is rows h.1)

some_bands : (bands : List Band) → AllByRecursion (λ b. b.from <ℤ b.to) bands → AllByRecursion IsBand bands → AllByRecursion HasPlaces (rects_of_bands bands)
some_bands [] h k = tt
some_bands (b ∷ bands) h k = all_append HasPlaces (rects_of_band b) (rects_of_bands bands) (some_band b.from b.to b.value h.0 (some_runs b.value k.0.intervals)) (some_bands bands h.1 k.1)

pub rects_some : (rs : List Rect) → IsCanonical rs → AllByRecursion HasPlaces rs
rects_some rs h = subst (AllByRecursion HasPlaces) (sym h.2) (some_bands h.0 (some_runs h.0 h.1.0) h.1.1)
