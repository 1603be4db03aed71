-- The canonical list of a test's places, band by band from the top and interval by interval from the left.
use Rattle.std.proofs.Common.{◌≡◌, ◌≢◌, ℕ, zero, suc, ◌+◌, ◌<◌, ◌≤◌, Bool, true, false, cond, ◌&&◌, List, [], ◌∷◌, ◌++◌, map, refl, subst, ◌∙◌, ap, arith, Option, Some, None, ◌⊎◌, inl, inr}
use Rattle.std.specs.Prelude.{ℤ, pos, ◌+ℤ◌, length, ◌*◌}
use Rattle.std.specs.List.{AllByRecursion}
use Rattle.std.proofs.lemmas.List.{length-append, length-map}
use Rattle.std.proofs.Math.Nat.{mul-le-mul_left}
use Rattle.std.specs.Ordering.{int_eq}
use Rattle.region.specs.declared.Rect.{Rect}
use Rattle.region.specs.Runs.{Run, with_value, runs_of}
use Rattle.region.specs.Region.{Interval, Band, rects_of_band, rects_of_bands, intervals_of, same_intervals, unless_empty, bands_of, rects_of}
use Rattle.region.specs.CanonicalLemmas.{same_intervals-exact, same_intervals-whole, unit-exact, runs_of-each}
use Rattle.region.specs.StretchLemmas.{stretch, runs_of-ext, runs_of-tell, runs_of-stretch}

-- an interval of a band
abbrev pub band_rect : ℤ → ℤ → Interval → Rect
band_rect top bottom i = record { x1 = i.from; y1 = top; x2 = i.to; y2 = bottom }

abbrev pub place_value : (ℤ → Bool) → ℤ → Option (Unit {0})
place_value row x = cond (row x) (Some tt) None

-- the rectangles of a band, of so many of its rows' places from x on
abbrev pub rects_in_row : ℤ → ℤ → (ℤ → Bool) → ℕ → ℕ → List Rect
rects_in_row top bottom row x count = map (band_rect top bottom) (runs_of (λ _ _. true) (place_value row) (pos x) count)

abbrev pub row_value : ℕ → (ℤ → ℤ → Bool) → ℤ → Option (List Interval)
row_value w test y = unless_empty (intervals_of w (λ x. test x y))

-- the rectangles of so many rows from y on
abbrev pub rects_in_rows : ℕ → (ℤ → ℤ → Bool) → ℕ → ℕ → List Rect
rects_in_rows w test y count = rects_of_bands (runs_of same_intervals (row_value w test) (pos y) count)

-- of a row, a stretch of equal places is one rectangle, or none
pub rects_in_row-stretch : (top bottom : ℤ) (row : ℤ → Bool) (n k count total : ℕ) → total ≡ k + count → ((x : ℕ) → n ≤ x → x < n + suc k → row (pos x) ≡ row (pos n)) → (count ≡ 0) ⊎ (row (pos (n + suc k)) ≢ row (pos n))
    → rects_in_row top bottom row n (suc total) ≡ cond (row (pos n)) (record { x1 = pos n; y1 = top; x2 = pos (n + suc k); y2 = bottom } ∷ []) [] ++ rects_in_row top bottom row (n + suc k) count
rects_in_row-stretch top bottom row n k count total e equal ends =
    ap (map (band_rect top bottom)) (runs_of-stretch (λ _ _. true) unit-exact (λ _. refl) (place_value row) n k count total e (λ x low high. ap (λ b. cond b (Some tt) None) (equal x low high)) other)
    ∙ go (row (pos n))
  where
    told : (a b : Bool) → ◌≡◌ {A = Option (Unit {0})} (cond a (Some tt) None) (cond b (Some tt) None) → a ≡ b
    told true true e = refl
    told false false e = refl
    told true false e = cc
    told false true e = cc

    other : (count ≡ 0) ⊎ (place_value row (pos (n + suc k)) ≢ place_value row (pos n))
    other = elim ends [ inl none ↦ inl none | inr apart ↦ inr (λ e. apart (told (row (pos (n + suc k))) (row (pos n)) e)) ]

    go : (b : Bool) → map (band_rect top bottom) (stretch (pos n) (pos (n + suc k)) (cond b (Some tt) None) ++ runs_of (λ _ _. true) (place_value row) (pos (n + suc k)) count)
        ≡ cond b (record { x1 = pos n; y1 = top; x2 = pos (n + suc k); y2 = bottom } ∷ []) [] ++ rects_in_row top bottom row (n + suc k) count
    go true = refl
    go false = refl

-- a row's intervals depend on its places alone
pub intervals_of-ext : (w : ℕ) (row other : ℤ → Bool) → ((x : ℕ) → x < w → row (pos x) ≡ other (pos x)) → intervals_of w row ≡ intervals_of w other
intervals_of-ext w row other agree = runs_of-ext (λ _ _. true) (place_value row) (place_value other) 0 w (λ x low high. ap (λ b. cond b (Some tt) None) (agree x (omega arith)))

-- and determine them
pub intervals_of-tell : (w : ℕ) (row other : ℤ → Bool) → intervals_of w row ≡ intervals_of w other → (x : ℕ) → x < w → row (pos x) ≡ other (pos x)
intervals_of-tell w row other e x below = told (row (pos x)) (other (pos x)) (runs_of-tell (λ _ _. true) unit-exact (λ _. refl) (place_value row) (place_value other) 0 w e x (omega arith) (omega arith))
  where
    told : (a b : Bool) → ◌≡◌ {A = Option (Unit {0})} (cond a (Some tt) None) (cond b (Some tt) None) → a ≡ b
    told true true e = refl
    told false false e = refl
    told true false e = cc
    told false true e = cc

-- of a screen, a stretch of equal rows is one band, or none
pub rects_in_rows-stretch : (w : ℕ) (test : ℤ → ℤ → Bool) (n k count total : ℕ) → total ≡ k + count → ((x y : ℕ) → x < w → n ≤ y → y < n + suc k → test (pos x) (pos y) ≡ test (pos x) (pos n))
    → (count ≡ 0) ⊎ ¬ ((x : ℕ) → x < w → test (pos x) (pos (n + suc k)) ≡ test (pos x) (pos n))
    → rects_in_rows w test n (suc total) ≡ rects_in_row (pos n) (pos (n + suc k)) (λ x. test x (pos n)) 0 w ++ rects_in_rows w test (n + suc k) count
rects_in_rows-stretch w test n k count total e equal ends =
    ap rects_of_bands (runs_of-stretch same_intervals same_intervals-exact same_intervals-whole (row_value w test) n k count total e
    (λ y low high. ap unless_empty (intervals_of-ext w (λ x. test x (pos y)) (λ x. test x (pos n)) (λ x below. equal x y below low high))) other)
    ∙ go (intervals_of w (λ x. test x (pos n)))
  where
    told : (is js : List Interval) → unless_empty is ≡ unless_empty js → is ≡ js
    told [] [] e = refl
    told (i ∷ is) (j ∷ js) e = cc
    told [] (j ∷ js) e = cc
    told (i ∷ is) [] e = cc

    other : (count ≡ 0) ⊎ (row_value w test (pos (n + suc k)) ≢ row_value w test (pos n))
    other = elim ends [
      | inl none ↦ inl none
      | inr apart ↦ inr (λ e. apart (intervals_of-tell w (λ x. test x (pos (n + suc k))) (λ x. test x (pos n)) (told (intervals_of w (λ x. test x (pos (n + suc k)))) (intervals_of w (λ x. test x (pos n))) e)))
    ]

    go : (is : List Interval) → rects_of_bands (stretch (pos n) (pos (n + suc k)) (unless_empty is) ++ runs_of same_intervals (row_value w test) (pos (n + suc k)) count)
        ≡ map (band_rect (pos n) (pos (n + suc k))) is ++ rects_in_rows w test (n + suc k) count
    go [] = refl
    go (i ∷ is) = refl

-- the canonical list depends on the screen's places alone
pub rects_of-ext : (w h : ℕ) (test other : ℤ → ℤ → Bool) → ((x y : ℕ) → x < w → y < h → test (pos x) (pos y) ≡ other (pos x) (pos y)) → rects_of w h test ≡ rects_of w h other
rects_of-ext w h test other agree = ap rects_of_bands (runs_of-ext same_intervals (row_value w test) (row_value w other) 0 h (λ y low high.
    ap unless_empty (intervals_of-ext w (λ x. test x (pos y)) (λ x. other x (pos y)) (λ x below. agree x y below (omega arith)))))

-- there are no more runs than numbers
length-with_value : {V : Type 0} (same : V → V → Bool) (n : ℤ) (o : Option V) (later : List (Run V)) → length (with_value same n o later) ≤ suc (length later)
length-with_value same n None later = omega arith
length-with_value same n (Some v) [] = omega arith
length-with_value same n (Some v) (r ∷ later) = go (int_eq r.from (n +ℤ pos 1) && same v r.value)
  where
    go : (b : Bool) → length (cond b (record { from = n; to = r.to; value = v } ∷ later) (record { from = n; to = n +ℤ pos 1; value = v } ∷ r ∷ later)) ≤ suc (suc (length later))
    go true = omega arith
    go false = omega arith

length-runs_of : {V : Type 0} (same : V → V → Bool) (f : ℤ → Option V) (n : ℤ) (count : ℕ) → length (runs_of same f n count) ≤ count
length-runs_of same f n zero = omega arith
length-runs_of same f n (suc count) = omega (arith, length-with_value same n (f n) (runs_of same f (n +ℤ pos 1) count), length-runs_of same f (n +ℤ pos 1) count)

-- nor more rectangles than places
length-rects_of_bands : (w : ℕ) (bands : List Band) → AllByRecursion (λ b. length b.value ≤ w) bands → length (rects_of_bands bands) ≤ w * length bands
length-rects_of_bands w [] all = omega arith
length-rects_of_bands w (b ∷ bands) all =
    omega (arith, length-append (rects_of_band b) (rects_of_bands bands), length-map b.value (band_rect b.from b.to), all.0, length-rects_of_bands w bands all.1)

pub length-rects_of : (w h : ℕ) (test : ℤ → ℤ → Bool) → length (rects_of w h test) ≤ w * h
length-rects_of w h test =
    let each = runs_of-each same_intervals same_intervals-exact (λ is. length is ≤ w) (row_value w test) (pos 0) h (λ y v e. few (intervals_of w (λ x. test x y)) v (length-runs_of (λ _ _. true) (place_value (λ x. test x y)) (pos 0) w) e) in
    omega (arith, length-rects_of_bands w (bands_of w h test) each, mul-le-mul_left w (length-runs_of same_intervals (row_value w test) (pos 0) h))
  where
    few : (is js : List Interval) → length is ≤ w → unless_empty is ≡ Some js → length js ≤ w
    few [] js h e = cc
    few (i ∷ is) js h e = let same : i ∷ is ≡ js = cc in subst (λ l. length l ≤ w) same h

-- no place, no rectangle
runs_of-none : {V : Type 0} (same : V → V → Bool) (n : ℤ) (count : ℕ) → runs_of same (λ _. None) n count ≡ []
runs_of-none same n zero = refl
runs_of-none same n (suc count) = runs_of-none same (n +ℤ pos 1) count

pub rects_of-none : (w h : ℕ) → rects_of w h (λ _ _. false) ≡ []
rects_of-none w h = ap (λ is. rects_of_bands (runs_of same_intervals (λ _. unless_empty is) (pos 0) h)) (runs_of-none (λ _ _. true) (pos 0) w) ∙ ap rects_of_bands (runs_of-none same_intervals (pos 0) h)
