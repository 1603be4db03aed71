-- In the order for copies no rectangle is drawn over a later one's source.
use Rattle.std.proofs.Common.{◌≡◌, ◌≢◌, ℕ, zero, suc, Bool, true, false, ◌||◌, ◌⊎◌, inl, inr, List, [], ◌∷◌, ◌++◌, map, take, reverse, refl, sym, ap, subst, ◌∙◌, arith}
use Rattle.std.specs.Prelude.{ℤ, pos, ◌-ℤ◌, ◌<ℤ◌, ◌≤ℤ◌, int_lt, flat_map}
use Rattle.std.specs.List.{AllByRecursion}
use Rattle.std.proofs.lemmas.Int.{ints}
use Rattle.std.proofs.lemmas.List.{reverse-append}
use Rattle.region.specs.declared.Rect.{Rect}
use Rattle.region.specs.Runs.{Run, AreRuns}
use Rattle.region.specs.Region.{Interval, Band, IsBand, IsCanonical, in_rect, covers, rects_of, rects_of_band, rects_of_bands, by_band, in_order, order}
use Rattle.region.specs.RunLemmas.{first_some, rest_runs}
use Rattle.region.specs.CanonicalLemmas.{rects_of_is_canonical-holds}
use Rattle.region.specs.RectLemmas.{band_rect}
use Rattle.region.specs.OrderLemmas.{BeginIn, BeginsElsewhere, by_band-band, in_order-plain, in_order-both, in_order-bands}
use Rattle.region.specs.Copies.{InOrder, copies_are_in_order}

-- ---- each earlier one with each later one

module _ {X : Type 0} where
  abbrev pub Pairs : (X → X → Type 0) → List X → Type 0
  Pairs R [] = Unit {0}
  Pairs R (x ∷ xs) = AllByRecursion (R x) xs × Pairs R xs

  all-join : (P : X → Type 0) (xs ys : List X) → AllByRecursion P xs → AllByRecursion P ys → AllByRecursion P (xs ++ ys)
  all-join P [] ys h k = k
  all-join P (x ∷ xs) ys h k = (h.0, all-join P xs ys h.1 k)

  all-reverse : (P : X → Type 0) (xs : List X) → AllByRecursion P xs → AllByRecursion P (reverse xs)
  all-reverse P [] h = tt
  all-reverse P (x ∷ xs) h = subst (AllByRecursion P) (sym (reverse-append (x ∷ []) xs)) (all-join P (reverse xs) (x ∷ []) (all-reverse P xs h.1) (h.0, tt))

  all-of : (P Q : X → Type 0) (xs : List X) → ((x : X) → P x → Q x) → AllByRecursion P xs → AllByRecursion Q xs
  all-of P Q [] f h = tt
  all-of P Q (x ∷ xs) f h = (f x h.0, all-of P Q xs f h.1)

  pairs-join : (R : X → X → Type 0) (xs ys : List X) → Pairs R xs → Pairs R ys → AllByRecursion (λ x. AllByRecursion (R x) ys) xs → Pairs R (xs ++ ys)
  pairs-join R [] ys h k between = k
  pairs-join R (x ∷ xs) ys h k between = (all-join (R x) xs ys h.0 between.0, pairs-join R xs ys h.1 k between.1)

  abbrev turned : (X → X → Type 0) → X → X → Type 0
  turned R x y = R y x

  pairs-reverse : (R : X → X → Type 0) (xs : List X) → Pairs R xs → Pairs (turned R) (reverse xs)
  pairs-reverse R [] h = tt
  pairs-reverse R (x ∷ xs) h = subst (Pairs (turned R)) (sym (reverse-append (x ∷ []) xs))
      (pairs-join (turned R) (reverse xs) (x ∷ []) (pairs-reverse R xs h.1) (tt, tt)
      (all-reverse (λ y. AllByRecursion (turned R y) (x ∷ [])) xs (all-of (R x) (λ y. AllByRecursion (turned R y) (x ∷ [])) xs (λ y r. (r, tt)) h.0)))

  pairs-of : (R S : X → X → Type 0) (xs : List X) → ((x y : X) → R x y → S x y) → Pairs R xs → Pairs S xs
  pairs-of R S [] f h = tt
  pairs-of R S (x ∷ xs) f h = (all-of (R x) (S x) xs (f x) h.0, pairs-of R S xs f h.1)

-- ---- canonical lists

-- the later runs begin behind the first
later : {V : Type 0} (r : Run V) (rs : List (Run V)) → AreRuns (r ∷ rs) → AllByRecursion (λ s. r.to ≤ℤ s.from) rs
later r [] h = tt
later r (s ∷ rest) h = (h.1, all-of (λ t. s.to ≤ℤ t.from) (λ t. r.to ≤ℤ t.from) rest (λ t k. behind r.to s.from s.to t.from h.1 (first_some s rest h.3) k) (later s rest h.3))
  where
    behind : (a b c d : ℤ) → a ≤ℤ b → b <ℤ c → c ≤ℤ d → a ≤ℤ d
    behind a b c d h k l = omega (arith, ints)

-- one stands left of another
Left : Rect → Rect → Type 0
Left r s = r.x2 ≤ℤ s.x1

row-pairs : (top bottom : ℤ) (is : List Interval) → AreRuns is → Pairs Left (map (band_rect top bottom) is)
unfolding Left
row-pairs top bottom [] h = tt
row-pairs top bottom (i ∷ is) h = (go is (later i is h), row-pairs top bottom is (rest_runs i is h))
  where
    go : (is : List Interval) → AllByRecursion (λ (s : Interval). i.to ≤ℤ s.from) is → AllByRecursion (λ (s : Rect). i.to ≤ℤ s.x1) (map (band_rect top bottom) is)
    go [] h = tt
    go (j ∷ is) h = (h.0, go is h.1)

row-places : (top bottom : ℤ) (is : List Interval) → AllByRecursion (λ r. (r.y1 ≡ top) × (r.y2 ≡ bottom)) (map (band_rect top bottom) is)
row-places top bottom [] = tt
row-places top bottom (i ∷ is) = ((refl, refl), row-places top bottom is)

-- the rectangles of later bands begin below
bands-below : (y : ℤ) (bands : List Band) → AllByRecursion (λ b. y ≤ℤ b.from) bands → AllByRecursion (λ r. y ≤ℤ r.y1) (rects_of_bands bands)
bands-below y [] h = tt
bands-below y (b ∷ bands) h = all-join (λ r. y ≤ℤ r.y1) (rects_of_band b) (rects_of_bands bands) (row b.value) (bands-below y bands h.1)
  where
    row : (is : List Interval) → AllByRecursion (λ r. y ≤ℤ r.y1) (map (band_rect b.from b.to) is)
    row [] = tt
    row (i ∷ is) = (h.0, row is)

-- in the list's order the first stands above the second, or left of it; with each band turned round, above, or right of it
Before : Rect → Rect → Type 0
Before r s = (r.y2 ≤ℤ s.y1) ⊎ (r.x2 ≤ℤ s.x1)

Turned : Rect → Rect → Type 0
Turned r s = (r.y2 ≤ℤ s.y1) ⊎ (s.x2 ≤ℤ r.x1)

-- those of a band with those below it
across : (R : Rect → Rect → Type 0) (b : Band) (rs rest : List Rect) → ((r s : Rect) → r.y2 ≤ℤ s.y1 → R r s) → AllByRecursion (λ r. (r.y1 ≡ b.from) × (r.y2 ≡ b.to)) rs → AllByRecursion (λ r. b.to ≤ℤ r.y1) rest
    → AllByRecursion (λ r. AllByRecursion (R r) rest) rs
across R b [] rest above h k = tt
across R b (r ∷ rs) rest above h k = (all-of (λ s. b.to ≤ℤ s.y1) (R r) rest (λ s below. above r s (subst (λ (y : ℤ). y ≤ℤ s.y1) (sym h.0.1) below)) k, across R b rs rest above h.1 k)

canonical-pairs : (bands : List Band) → AreRuns bands → AllByRecursion IsBand bands → Pairs Before (rects_of_bands bands)
unfolding Before Left
canonical-pairs [] runs each = tt
canonical-pairs (b ∷ bands) runs each = pairs-join Before (rects_of_band b) (rects_of_bands bands)
    (pairs-of Left Before (rects_of_band b) (λ r s h. inr h) (row-pairs b.from b.to b.value each.0.intervals))
    (canonical-pairs bands (rest_runs b bands runs) each.1)
    (across Before b (rects_of_band b) (rects_of_bands bands) (λ r s h. inl h) (row-places b.from b.to b.value) (bands-below b.to bands (later b bands runs)))

-- a canonical list's bands are its bands
elsewhere : (b : Band) (rest : List Rect) → b.from <ℤ b.to → AllByRecursion (λ r. b.to ≤ℤ r.y1) rest → BeginsElsewhere b.from rest
elsewhere b [] some h = tt
elsewhere b (r ∷ rest) some h = λ e. absurd (apart r.y1 b.from b.to e some h.0)
  where
    apart : (y a c : ℤ) → y ≡ a → a <ℤ c → c ≤ℤ y → ⊥
    apart y a c e h k = omega (arith, ints)

first-band : (top bottom : ℤ) (is : List Interval) (rest : List Rect) → is ≢ [] → BeginsElsewhere top rest → by_band (map (band_rect top bottom) is ++ rest) ≡ map (band_rect top bottom) is ∷ by_band rest
first-band top bottom [] rest some other = absurd (some refl)
first-band top bottom (i ∷ is) rest some other = by_band-band (band_rect top bottom i) (map (band_rect top bottom) is) rest (same is) other
  where
    same : (is : List Interval) → BeginIn top (map (band_rect top bottom) is)
    same [] = tt
    same (j ∷ is) = (refl, same is)

turned-below : (y : ℤ) (lines : List (List Rect)) → AllByRecursion (AllByRecursion (λ r. y ≤ℤ r.y1)) lines → AllByRecursion (λ r. y ≤ℤ r.y1) (flat_map reverse lines)
turned-below y [] h = tt
turned-below y (l ∷ lines) h = all-join (λ r. y ≤ℤ r.y1) (reverse l) (flat_map reverse lines) (all-reverse (λ r. y ≤ℤ r.y1) l h.0) (turned-below y lines h.1)

-- the bands of a canonical list
lines-are : (bands : List Band) → AreRuns bands → AllByRecursion IsBand bands → by_band (rects_of_bands bands) ≡ map rects_of_band bands
lines-are [] runs each = refl
lines-are (b ∷ bands) runs each =
    first-band b.from b.to b.value (rects_of_bands bands) each.0.some (elsewhere b (rects_of_bands bands) (first_some b bands runs) (bands-below b.to bands (later b bands runs)))
    ∙ ap (λ l. rects_of_band b ∷ l) (lines-are bands (rest_runs b bands runs) each.1)

lines-below : (y : ℤ) (bands : List Band) → AllByRecursion (λ b. y ≤ℤ b.from) bands → AllByRecursion (AllByRecursion (λ r. y ≤ℤ r.y1)) (map rects_of_band bands)
lines-below y [] h = tt
lines-below y (b ∷ bands) h = (row b.value, lines-below y bands h.1)
  where
    row : (is : List Interval) → AllByRecursion (λ r. y ≤ℤ r.y1) (map (band_rect b.from b.to) is)
    row [] = tt
    row (i ∷ is) = (h.0, row is)

turned-pairs : (bands : List Band) → AreRuns bands → AllByRecursion IsBand bands → Pairs Turned (flat_map reverse (map rects_of_band bands))
unfolding Turned Left
turned-pairs [] runs each = tt
turned-pairs (b ∷ bands) runs each = pairs-join Turned (reverse (rects_of_band b)) (flat_map reverse (map rects_of_band bands))
    (pairs-of (turned Left) Turned (reverse (rects_of_band b)) (λ r s h. inr h) (pairs-reverse Left (rects_of_band b) (row-pairs b.from b.to b.value each.0.intervals)))
    (turned-pairs bands (rest_runs b bands runs) each.1)
    (across Turned b (reverse (rects_of_band b)) (flat_map reverse (map rects_of_band bands)) (λ r s h. inl h)
    (all-reverse (λ r. (r.y1 ≡ b.from) × (r.y2 ≡ b.to)) (rects_of_band b) (row-places b.from b.to b.value))
    (turned-below b.to (map rects_of_band bands) (lines-below b.to bands (later b bands runs))))

-- ---- sources

-- the first isn't drawn over the second's source
Spares : ℤ × ℤ → Rect → Rect → Type 0
Spares by r s = (x y : ℤ) → in_rect s x y ≡ true → in_rect r (x -ℤ by.0) (y -ℤ by.1) ≡ false

record Within (r : Rect) (x y : ℤ) : Type 0 where
  left : r.x1 ≤ℤ x
  right : x <ℤ r.x2
  top : r.y1 ≤ℤ y
  bottom : y <ℤ r.y2

within : (r : Rect) (x y : ℤ) → in_rect r x y ≡ true → Within r x y
within r x y e = record { left = grind (arith, ints); right = grind (arith, ints); top = grind (arith, ints); bottom = grind (arith, ints) }

beyond-right : (r : Rect) (x y : ℤ) → r.x2 ≤ℤ x → in_rect r x y ≡ false
beyond-right r x y h = grind (arith, ints)

beyond-left : (r : Rect) (x y : ℤ) → x <ℤ r.x1 → in_rect r x y ≡ false
beyond-left r x y h = grind (arith, ints)

beyond-bottom : (r : Rect) (x y : ℤ) → r.y2 ≤ℤ y → in_rect r x y ≡ false
beyond-bottom r x y h = grind (arith, ints)

beyond-top : (r : Rect) (x y : ℤ) → y <ℤ r.y1 → in_rect r x y ≡ false
beyond-top r x y h = grind (arith, ints)

-- moved by no more than 0, and by more
not-below : (a y d : ℤ) → a ≤ℤ y → d ≤ℤ pos 0 → a ≤ℤ (y -ℤ d)
not-below a y d h k = omega (arith, ints)

below : (a y d : ℤ) → y <ℤ a → pos 0 <ℤ d → (y -ℤ d) <ℤ a
below a y d h k = omega (arith, ints)

trans-le : (a b c : ℤ) → a ≤ℤ b → b ≤ℤ c → a ≤ℤ c
trans-le a b c h k = omega (arith, ints)

trans-lt : (a b c : ℤ) → a <ℤ b → b ≤ℤ c → a <ℤ c
trans-lt a b c h k = omega (arith, ints)

spares-plain : (by : ℤ × ℤ) → by.0 ≤ℤ pos 0 → by.1 ≤ℤ pos 0 → (r s : Rect) → Before r s → Spares by r s
unfolding Before Spares
spares-plain by h k r s (inl above) x y e = let w = within s x y e in beyond-bottom r _ _ (not-below r.y2 y by.1 (trans-le _ _ _ above w.top) k)
spares-plain by h k r s (inr left) x y e = let w = within s x y e in beyond-right r _ _ (not-below r.x2 x by.0 (trans-le _ _ _ left w.left) h)

spares-both : (by : ℤ × ℤ) → pos 0 <ℤ by.0 → pos 0 <ℤ by.1 → (r s : Rect) → Before s r → Spares by r s
unfolding Before Spares
spares-both by h k r s (inl above) x y e = let w = within s x y e in beyond-top r _ _ (below r.y1 y by.1 (trans-lt _ _ _ w.bottom above) k)
spares-both by h k r s (inr left) x y e = let w = within s x y e in beyond-left r _ _ (below r.x1 x by.0 (trans-lt _ _ _ w.right left) h)

spares-turned : (by : ℤ × ℤ) → pos 0 <ℤ by.0 → by.1 ≤ℤ pos 0 → (r s : Rect) → Turned r s → Spares by r s
unfolding Turned Spares
spares-turned by h k r s (inl above) x y e = let w = within s x y e in beyond-bottom r _ _ (not-below r.y2 y by.1 (trans-le _ _ _ above w.top) k)
spares-turned by h k r s (inr right) x y e = let w = within s x y e in beyond-left r _ _ (below r.x1 x by.0 (trans-lt _ _ _ w.right right) h)

spares-up : (by : ℤ × ℤ) → by.0 ≤ℤ pos 0 → pos 0 <ℤ by.1 → (r s : Rect) → Turned s r → Spares by r s
unfolding Turned Spares
spares-up by h k r s (inl above) x y e = let w = within s x y e in beyond-top r _ _ (below r.y1 y by.1 (trans-lt _ _ _ w.bottom above) k)
spares-up by h k r s (inr right) x y e = let w = within s x y e in beyond-right r _ _ (not-below r.x2 x by.0 (trans-le _ _ _ right w.left) h)

-- not over a source in one of them
spares-all : (by : ℤ × ℤ) (r : Rect) (rs : List Rect) → AllByRecursion (Spares by r) rs → (x y : ℤ) → covers rs x y ≡ true → in_rect r (x -ℤ by.0) (y -ℤ by.1) ≡ false
unfolding Spares
spares-all by r [] h x y e = absurd cc
spares-all by r (s ∷ rs) h x y e = one (in_rect s x y) refl e (λ there. spares-all by r rs h.1 x y there)
  where
    one : (b : Bool) → in_rect s x y ≡ b → (b || covers rs x y) ≡ true → (covers rs x y ≡ true → in_rect r (x -ℤ by.0) (y -ℤ by.1) ≡ false) → in_rect r (x -ℤ by.0) (y -ℤ by.1) ≡ false
    one true here e others = h.0 x y here
    one false there e others = others e

pairs-in-order : (by : ℤ × ℤ) (rs : List Rect) → Pairs (Spares by) rs → InOrder by rs
pairs-in-order by [] h = tt
pairs-in-order by (r ∷ rs) h = (spares-all by r rs h.0, pairs-in-order by rs h.1)

positive : (d : ℤ) → int_lt (pos 0) d ≡ true → pos 0 <ℤ d
positive d e = grind (arith, ints)

not-positive : (d : ℤ) → int_lt (pos 0) d ≡ false → d ≤ℤ pos 0
not-positive d e = grind (arith, ints)

in-order : (bands : List Band) → AreRuns bands → AllByRecursion IsBand bands → (by : ℤ × ℤ) (a b : Bool) → int_lt (pos 0) by.0 ≡ a → int_lt (pos 0) by.1 ≡ b → InOrder by (in_order a b (rects_of_bands bands))
in-order bands runs each by false false h k =
    subst (InOrder by) (sym (in_order-plain (rects_of_bands bands)))
    (pairs-in-order by _ (pairs-of Before (Spares by) _ (spares-plain by (not-positive by.0 h) (not-positive by.1 k)) (canonical-pairs bands runs each)))
in-order bands runs each by true true h k =
    subst (InOrder by) (sym (in_order-both (rects_of_bands bands)))
    (pairs-in-order by _ (pairs-of (turned Before) (Spares by) _ (spares-both by (positive by.0 h) (positive by.1 k)) (pairs-reverse Before _ (canonical-pairs bands runs each))))
in-order bands runs each by true false h k =
    subst (λ (lines : List (List Rect)). InOrder by (flat_map reverse lines)) (sym (lines-are bands runs each))
    (pairs-in-order by _ (pairs-of Turned (Spares by) _ (spares-turned by (positive by.0 h) (not-positive by.1 k)) (turned-pairs bands runs each)))
in-order bands runs each by false true h k =
    subst (InOrder by) (sym (in_order-bands (rects_of_bands bands) ∙ ap (λ (lines : List (List Rect)). reverse (flat_map reverse lines)) (lines-are bands runs each)))
    (pairs-in-order by _ (pairs-of (turned Turned) (Spares by) _ (spares-up by (not-positive by.0 h) (positive by.1 k)) (pairs-reverse Turned _ (turned-pairs bands runs each))))

-- a canonical list, in the order for copies
pub canonical-in-order : (rs : List Rect) → IsCanonical rs → (by : ℤ × ℤ) → InOrder by (order by.0 by.1 rs)
canonical-in-order rs c by = subst (λ (qs : List Rect). InOrder by (order by.0 by.1 qs)) (sym c.2) (in-order c.0 c.1.0 c.1.1 by _ _ refl refl)

pub copies-in-order : copies_are_in_order
copies-in-order w h set by = canonical-in-order (rects_of w h set) (rects_of_is_canonical-holds w h set) by

-- the first ones of a list
pub covers-take : (n : ℕ) (rs : List Rect) (x y : ℤ) → covers (take n rs) x y ≡ true → covers rs x y ≡ true
covers-take zero rs x y e = absurd cc
covers-take (suc n) [] x y e = e
covers-take (suc n) (r ∷ rs) x y e = one (in_rect r x y) (covers (take n rs) x y) (covers rs x y) (covers-take n rs x y) e
  where
    one : (a b c : Bool) → (b ≡ true → c ≡ true) → (a || b) ≡ true → (a || c) ≡ true
    one true b c f e = refl
    one false b c f e = f e

pub in-order-take : (n : ℕ) (by : ℤ × ℤ) (rs : List Rect) → InOrder by rs → InOrder by (take n rs)
in-order-take zero by rs h = tt
in-order-take (suc n) by [] h = tt
in-order-take (suc n) by (r ∷ rs) h = ((λ x y e. h.0 x y (covers-take n rs x y e)), in-order-take n by rs h.1)
