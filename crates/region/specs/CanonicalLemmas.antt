-- A canonical list is determined by its places, and rects_of is that of its test's places.
use Rattle.std.proofs.Common.{◌≡◌, ◌≢◌, ℕ, zero, suc, Bool, true, false, cond, ◌&&◌, ◌||◌, List, [], ◌∷◌, ◌++◌, map, refl, sym, ◌∙◌, ap, subst, arith, Option, Some, None}
use Rattle.std.specs.Prelude.{ℤ, pos, ◌+ℤ◌, ◌<ℤ◌, ◌≤ℤ◌, int_lt, int_le, is_some}
use Rattle.std.specs.Ordering.{int_eq}
use Rattle.std.specs.List.{list_any, AllByRecursion}
use Rattle.std.proofs.lemmas.Bool.Decides.{Decides-int_eq}
use Rattle.std.proofs.lemmas.Int.{ints, by_lt_z}
use Rattle.region.specs.Runs.{Run, AreRuns, with_value, runs_of}
use Rattle.region.specs.Region.{Interval, Band, in_rect, covers, rects_of_band, rects_of_bands, IsBand, intervals_of, same_intervals, unless_empty, bands_of}
use Rattle.region.specs.Claims.{one_list_a_set, rects_of_is_canonical, rects_of_covers}
use Rattle.region.specs.RunLemmas.{value_at, inside, others_later, rest_runs, first_some, one_list}
use Rattle.region.specs.MaximalLemmas.{runs_of_runs, value_at-runs_of, value_at-runs_of_above, nothing_before}

-- ---- the places of bands

-- whether a place is in a row's intervals, if there is such a row
abbrev pub in_row : Option (List Interval) → ℤ → Bool
in_row None x = false
in_row (Some is) x = is_some (value_at is x)

pub list_any-append : {X : Type 0} (p : X → Bool) (xs ys : List X) → list_any p (xs ++ ys) ≡ (list_any p xs || list_any p ys)
list_any-append p [] ys = refl
list_any-append p (x ∷ xs) ys = ap (λ b. p x || b) (list_any-append p xs ys) ∙ or_assoc (p x) (list_any p xs) (list_any p ys)
  where
    or_assoc : (a b c : Bool) → (a || (b || c)) ≡ ((a || b) || c)
    or_assoc true b c = refl
    or_assoc false b c = refl

abbrev pub in_rows : ℤ → ℤ → ℤ → Bool
in_rows top bottom y = int_le top y && int_lt y bottom

pub covers-band : (b : Band) (x y : ℤ) → covers (rects_of_band b) x y ≡ (in_rows b.from b.to y && is_some (value_at b.value x))
covers-band b x y = go b.value
  where
    one : (a c d e s : Bool) → (((a && c) && d) && e || ((d && e) && s)) ≡ ((d && e) && (cond (a && c) true s))
    one true true true true s = refl
    one true true true false s = refl
    one true true false e s = refl
    one true false true true s = refl
    one true false true false s = refl
    one true false false e s = refl
    one false c true true s = refl
    one false c true false s = refl
    one false c false e s = refl

    some-cond : (a : Bool) (v : Unit {0}) (o : Option (Unit {0})) → is_some (cond a (Some v) o) ≡ cond a true (is_some o)
    some-cond true v o = refl
    some-cond false v o = refl

    none : (a c : Bool) → false ≡ ((a && c) && false)
    none true true = refl
    none true false = refl
    none false c = refl

    go : (is : List Interval) → list_any (λ r. in_rect r x y) (map (λ i. record { x1 = i.from; y1 = b.from; x2 = i.to; y2 = b.to }) is) ≡ (in_rows b.from b.to y && is_some (value_at is x))
    go [] = none (int_le b.from y) (int_lt y b.to)
    go (i ∷ is) =
        ap (λ s. in_rect (record { x1 = i.from; y1 = b.from; x2 = i.to; y2 = b.to }) x y || s) (go is)
        ∙ one (int_le i.from x) (int_lt x i.to) (int_le b.from y) (int_lt y b.to) (is_some (value_at is x))
        ∙ ap (λ s. in_rows b.from b.to y && s) (sym (some-cond (int_le i.from x && int_lt x i.to) i.value (value_at is x)))

-- the bands' places are those of the row's intervals
pub covers-bands : (bands : List Band) (x y : ℤ) → AreRuns bands → covers (rects_of_bands bands) x y ≡ in_row (value_at bands y) x
covers-bands [] x y h = refl
covers-bands (b ∷ bands) x y h =
    list_any-append (λ r. in_rect r x y) (rects_of_band b) (rects_of_bands bands)
    ∙ ap (λ s. s || covers (rects_of_bands bands) x y) (covers-band b x y)
    ∙ ap (λ s. (in_rows b.from b.to y && is_some (value_at b.value x)) || s) (covers-bands bands x y (rest_runs b bands h))
    ∙ go (in_rows b.from b.to y) refl
  where
    or_false : (s : Bool) → (s || false) ≡ s
    or_false true = refl
    or_false false = refl

    go : (within : Bool) → in_rows b.from b.to y ≡ within → (in_rows b.from b.to y && is_some (value_at b.value x) || in_row (value_at bands y) x) ≡ in_row (cond (in_rows b.from b.to y) (Some b.value) (value_at bands y)) x
    go true e = rw e (ap (λ o. is_some (value_at b.value x) || in_row o x) (others_later b bands y h (grind (arith, ints))) ∙ or_false (is_some (value_at b.value x)))
    go false e = rw e refl

-- ---- a canonical list is determined by its places

pub IsRow : Option (List Interval) → Type 0
IsRow None = Unit {0}
IsRow (Some is) = (is ≢ []) × AreRuns is

pub row-of-bands : (bands : List Band) (y : ℤ) → AllByRecursion IsBand bands → IsRow (value_at bands y)
unfolding IsRow
row-of-bands [] y h = tt
row-of-bands (b ∷ bands) y h = elim (in_rows b.from b.to y) as (λ within. IsRow (cond within (Some b.value) (value_at bands y))) [
  | true ↦ (h.0.some, h.0.intervals)
  | false ↦ row-of-bands bands y h.1
]

same-units : (o p : Option (Unit {0})) → is_some o ≡ is_some p → o ≡ p
same-units None None e = refl
same-units (Some u) (Some v) e = refl
same-units None (Some v) e = cc
same-units (Some u) None e = cc

-- a row that is there has a place
no-place : (is : List Interval) → is ≢ [] → AreRuns is → ((x : ℤ) → is_some (value_at is x) ≡ false) → ⊥
no-place [] some h none = some refl
no-place (i ∷ is) some h none = true-false (sym (ap is_some (inside i is i.from (omega (arith, ints)) (first_some i is h))) ∙ none i.from)
  where
    true-false : true ≡ false → ⊥
    true-false e = cc

pub same-rows : (o p : Option (List Interval)) → IsRow o → IsRow p → ((x : ℤ) → in_row o x ≡ in_row p x) → o ≡ p
unfolding IsRow
same-rows None None h k e = refl
same-rows (Some is) (Some js) h k e = ap Some (one_list is js h.1 k.1 (λ x. same-units (value_at is x) (value_at js x) (e x)))
same-rows (Some is) None h k e = absurd (no-place is h.0 h.1 e)
same-rows None (Some js) h k e = absurd (no-place js k.0 k.1 (λ x. sym (e x)))

pub one_list_a_set-holds : one_list_a_set
one_list_a_set-holds rs qs h k e =
    let same : (y : ℤ) → value_at h.0 y ≡ value_at k.0 y = λ y. same-rows (value_at h.0 y) (value_at k.0 y) (row-of-bands h.0 y h.1.1) (row-of-bands k.0 y k.1.1) (λ x.
    sym (covers-bands h.0 x y h.1.0) ∙ ap (λ l. covers l x y) (sym h.2) ∙ e x y ∙ ap (λ l. covers l x y) k.2 ∙ covers-bands k.0 x y k.1.0) in
    h.2 ∙ ap rects_of_bands (one_list h.0 k.0 h.1.0 k.1.0 same) ∙ sym k.2

-- ---- rects_of

and-left : (a b : Bool) → (a && b) ≡ true → a ≡ true
and-left true b e = refl
and-left false b e = e

and-right : (a b : Bool) → (a && b) ≡ true → b ≡ true
and-right true b e = e
and-right false b e = cc

pub same_intervals-exact : (is js : List Interval) → same_intervals is js ≡ true → is ≡ js
same_intervals-exact [] [] e = refl
same_intervals-exact [] (j ∷ js) e = cc
same_intervals-exact (i ∷ is) [] e = cc
same_intervals-exact (i ∷ is) (j ∷ js) e =
    let ends = and-left (int_eq i.from j.from && int_eq i.to j.to) (same_intervals is js) e in
    let from : i.from ≡ j.from = (Decides-int_eq i.from j.from).0 (and-left (int_eq i.from j.from) (int_eq i.to j.to) ends) in
    let to : i.to ≡ j.to = (Decides-int_eq i.to j.to).0 (and-right (int_eq i.from j.from) (int_eq i.to j.to) ends) in
    let interval : ℤ → ℤ → Interval = λ a b. record { from = a; to = b; value = tt } in
    ap (λ a. interval a i.to ∷ is) from ∙ ap (λ b. interval j.from b ∷ is) to
    ∙ ap (λ l. j ∷ l) (same_intervals-exact is js (and-right (int_eq i.from j.from && int_eq i.to j.to) (same_intervals is js) e))

pub same_intervals-whole : (is : List Interval) → same_intervals is is ≡ true
same_intervals-whole [] = refl
same_intervals-whole (i ∷ is) = rw ((Decides-int_eq i.from i.from).1 refl, (Decides-int_eq i.to i.to).1 refl, same_intervals-whole is) refl

-- a row of a screen
abbrev row_of : ℕ → (ℤ → Bool) → ℤ → Option (Unit {0})
row_of w row x = cond (row x) (Some tt) None

abbrev rows_of : ℕ → (ℤ → ℤ → Bool) → ℤ → Option (List Interval)
rows_of w test y = unless_empty (intervals_of w (λ x. test x y))

pub unit-exact : (u v : Unit {0}) → true ≡ true → u ≡ v
unit-exact u v e = refl

intervals-are-runs : (w : ℕ) (row : ℤ → Bool) → AreRuns (intervals_of w row)
intervals-are-runs w row = (runs_of_runs (λ _ _. true) unit-exact (λ _. refl) (row_of w row) (pos 0) w).0

bands-are-runs : (w h : ℕ) (test : ℤ → ℤ → Bool) → AreRuns (bands_of w h test)
bands-are-runs w h test = (runs_of_runs same_intervals same_intervals-exact same_intervals-whole (rows_of w test) (pos 0) h).0

-- each band has the intervals of some row
module _ {V : Type 0} (same : V → V → Bool) (exact : (u v : V) → same u v ≡ true → u ≡ v) (P : V → Type 0) where
  abbrev pub OfEach : List (Run V) → Type 0
  OfEach rs = AllByRecursion (λ r. P r.value) rs

  with_value-each : (n : ℤ) (o : Option V) (later : List (Run V)) → ((v : V) → o ≡ Some v → P v) → OfEach later → OfEach (with_value same n o later)
  with_value-each n None later p h = h
  with_value-each n (Some v) [] p h = (p v refl, tt)
  with_value-each n (Some v) (r ∷ later) p h =
      elim (int_eq r.from (n +ℤ pos 1) && same v r.value) as (λ b. OfEach (cond b (record { from = n; to = r.to; value = v } ∷ later) (record { from = n; to = n +ℤ pos 1; value = v } ∷ r ∷ later))) [
        | true ↦ (p v refl, h.1)
        | false ↦ (p v refl, h)
      ]

  pub runs_of-each : (f : ℤ → Option V) (n : ℤ) (count : ℕ) → ((y : ℤ) (v : V) → f y ≡ Some v → P v) → OfEach (runs_of same f n count)
  runs_of-each f n zero p = tt
  runs_of-each f n (suc count) p = with_value-each n (f n) (runs_of same f (n +ℤ pos 1) count) (λ v e. p n v e) (runs_of-each f (n +ℤ pos 1) count p)

IsSomeRow : List Interval → Type 0
IsSomeRow is = (is ≢ []) × AreRuns is

unless_empty-some : (is js : List Interval) → AreRuns is → unless_empty is ≡ Some js → IsSomeRow js
unfolding IsSomeRow
unless_empty-some [] js h e = cc
unless_empty-some (i ∷ is) js h e = let same : i ∷ is ≡ js = cc in let P : List Interval → Type 0 = λ l. (l ≢ []) × AreRuns l in subst P same ((λ n. cc), h)

as-bands : (bands : List Band) → AllByRecursion (λ b. IsSomeRow b.value) bands → AllByRecursion IsBand bands
unfolding IsSomeRow
as-bands [] h = tt
as-bands (b ∷ bands) h = (record { some = h.0.0; intervals = h.0.1 }, as-bands bands h.1)

pub rects_of_is_canonical-holds : rects_of_is_canonical
rects_of_is_canonical-holds w h test = (
  bands_of w h test,
  (
    bands-are-runs w h test,
    as-bands (bands_of w h test) (runs_of-each same_intervals same_intervals-exact IsSomeRow (rows_of w test) (pos 0) h (λ y v e. unless_empty-some (intervals_of w (λ x. test x y)) v (intervals-are-runs w (λ x. test x y)) e)),
  ),
  refl,
)

in_row-unless_empty : (is : List Interval) (x : ℤ) → in_row (unless_empty is) x ≡ is_some (value_at is x)
in_row-unless_empty [] x = refl
in_row-unless_empty (i ∷ is) x = refl

-- the runs of the first n numbers have the function's values there, and none elsewhere
range-values : {V : Type 0} (same : V → V → Bool) (exact : (u v : V) → same u v ≡ true → u ≡ v) (whole : (u : V) → same u u ≡ true) (f : ℤ → Option V) (n : ℕ) (y : ℤ)
    → value_at (runs_of same f (pos 0) n) y ≡ cond (int_le (pos 0) y && int_lt y (pos n)) (f y) None
range-values same exact whole f n y = by_lt_z y (pos 0)
    (λ less. let runs = runs_of_runs same exact whole f (pos 0) n in
    nothing_before (pos 0) (runs_of same f (pos 0) n) y runs.0 runs.1 less ∙ sym (ap (λ b. cond b (f y) None) (test-below n y less)))
    (λ low. by_lt_z y (pos n)
    (λ high. value_at-runs_of same exact whole f (pos 0) n y low (omega (arith, ints, high)) ∙ sym (ap (λ b. cond b (f y) None) (test-within n y low high)))
    (λ high. value_at-runs_of_above same exact whole f (pos 0) n y (omega (arith, ints, high)) ∙ sym (ap (λ b. cond b (f y) None) (test-above n y low high))))
  where
    test-below : (n : ℕ) (y : ℤ) → y <ℤ pos 0 → (int_le (pos 0) y && int_lt y (pos n)) ≡ false
    test-below n y less = grind (arith, ints)

    test-within : (n : ℕ) (y : ℤ) → pos 0 ≤ℤ y → y <ℤ pos n → (int_le (pos 0) y && int_lt y (pos n)) ≡ true
    test-within n y low high = grind (arith, ints)

    test-above : (n : ℕ) (y : ℤ) → pos 0 ≤ℤ y → pos n ≤ℤ y → (int_le (pos 0) y && int_lt y (pos n)) ≡ false
    test-above n y low high = grind (arith, ints)

in_row-cond : (b : Bool) (is : List Interval) (x : ℤ) → in_row (cond b (unless_empty is) None) x ≡ (b && is_some (value_at is x))
in_row-cond true is x = in_row-unless_empty is x
in_row-cond false is x = refl

abbrev unit_if : Bool → Option (Unit {0})
unit_if t = cond t (Some tt) None

some-cond : (b t : Bool) → is_some (cond b (unit_if t) None) ≡ (b && t)
some-cond true true = refl
some-cond true false = refl
some-cond false t = refl

five : (a b c d t : Bool) → ((c && d) && ((a && b) && t)) ≡ ((((a && b) && c) && d) && t)
five true true true d t = refl
five true true false d t = refl
five true false true true t = refl
five true false true false t = refl
five true false false d t = refl
five false b true true t = refl
five false b true false t = refl
five false b false d t = refl

pub rects_of_covers-holds : rects_of_covers
rects_of_covers-holds w h test x y =
    let rows = int_le (pos 0) y && int_lt y (pos h) in
    let columns = int_le (pos 0) x && int_lt x (pos w) in
    covers-bands (bands_of w h test) x y (bands-are-runs w h test)
    ∙ ap (λ o. in_row o x) (range-values same_intervals same_intervals-exact same_intervals-whole (rows_of w test) h y)
    ∙ in_row-cond rows (intervals_of w (λ x. test x y)) x
    ∙ ap (λ o. rows && is_some o) (range-values (λ _ _. true) unit-exact (λ _. refl) (row_of w (λ x. test x y)) w x)
    ∙ ap (λ b. rows && b) (some-cond columns (test x y))
    ∙ five (int_le (pos 0) x) (int_lt x (pos w)) (int_le (pos 0) y) (int_lt y (pos h)) (test x y)
