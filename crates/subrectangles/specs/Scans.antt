-- A row scanned run by run.
use Rattle.std.proofs.Common.{◌≡◌, ℕ, zero, suc, ◌+◌, ◌-◌, ◌*◌, ◌<◌, ◌≤◌, ◌++◌, ◌&&◌, ◌||◌, inl, inr, Bool, true, false, not, cond, eqb, ltb, List, [], ◌∷◌, length, take, drop, map, filter, get_or, slice_index, refl, sym, ap, ◌∙◌, subst, arith, add-zero, add-one, append-nil, append_assoc, length-append}
use Rattle.std.specs.List.{prefix_len, range_with_len, flat_map}
use Rattle.std.proofs.lemmas.Grind.{flat_map-append}
use Rattle.std.proofs.Math.Nat.{zero-mul}
use Rattle.std.proofs.lemmas.List.{get_or-drop, length-drop, drop-drop, map-append}
use Rattle.std.proofs.lemmas.List.Elements.{filter-append}
use Rattle.std.proofs.lemmas.Bool.{eq-eqb, eqb-true, eqb-false, lt-ltb, cases_lt}
use Rattle.std.proofs.lemmas.Bool.Decides.{eqb_tells}
use Rattle.subrectangles.specs.declared.Subrectangle.{Subrectangle}
use Rattle.subrectangles.specs.declared.scan.Run.{Run}
use Rattle.subrectangles.specs.Subrectangles.{rows_of, row_at, begins_run, stretch, has_run, run_at, begins_subrectangle, subrectangle_from, subrectangles_in}
use Rattle.subrectangles.specs.Runs.{Front, Front-one, prefix_is}

-- ---- the rows of a rectangle

pub row_is : (w h : ℕ) (pixels : List ℕ) (y : ℕ) → y < h → get_or (rows_of w h pixels) y [] ≡ take w (drop (y * w) pixels)
unfolding rows_of
row_is w zero pixels y lt = absurd (omega arith)
row_is w (suc h) pixels zero lt = ap (λ (n : ℕ). take w (drop n pixels)) (sym (zero-mul w))
row_is w (suc h) pixels (suc y) lt =
    row_is w h (drop w pixels) y (omega arith) ∙ ap (take w) (drop-drop (y * w) w pixels ∙ ap (λ (n : ℕ). drop n pixels) (let e : w + y * w ≡ suc y * w = omega arith in e))

pub rows_count : (w h : ℕ) (pixels : List ℕ) → length (rows_of w h pixels) ≡ h
unfolding rows_of
rows_count w zero pixels = refl
rows_count w (suc h) pixels = ap suc (rows_count w h (drop w pixels))

-- ---- runs

pub unequal : (a b : ℕ) → (a ≡ b → ⊥) → eqb a b ≡ false
unequal a b ne = elim (eqb_tells a b) [ inl q ↦ absurd (ne q.1) | inr q ↦ q.0 ]

-- n pixels from s on are one, and the next one isn't
pub stretch_is : (row : List ℕ) (s n : ℕ) → s + n ≤ length row → ((k : ℕ) → s ≤ k → k < s + n → get_or row k 0 ≡ get_or row s 0)
    → (s + n < length row → get_or row (s + n) 0 ≡ get_or row s 0 → ⊥) → n ≡ stretch row s
stretch_is row s n within same ends = Front-one test 0 (drop s row) n (stretch row s) front (prefix_is test 0 (drop s row))
  where
    test : ℕ → Bool
    test p = eqb p (slice_index row s)

    front : Front test 0 (drop s row) n
    front = record {
      within = omega (arith, length-drop s row);
      pass = λ i lt. eq-eqb _ _ (get_or-drop s row i 0 ∙ same (s + i) (omega arith) (omega (arith, lt)));
      stops = λ lt. unequal _ _ (λ e. ends (omega (arith, lt, length-drop s row)) (sym (get_or-drop s row n 0) ∙ e));
    }

-- n rows from the top on have the run, and the next one hasn't
pub height_is : (r : Run) (rows : List (List ℕ)) (top n : ℕ) → top + n ≤ length rows → ((k : ℕ) → top ≤ k → k < top + n → has_run r (row_at rows k) ≡ true)
    → (top + n < length rows → has_run r (row_at rows (top + n)) ≡ false) → n ≡ prefix_len (has_run r) (drop top rows)
height_is r rows top n within same ends = Front-one (has_run r) [] (drop top rows) n (prefix_len (has_run r) (drop top rows)) front (prefix_is (has_run r) [] (drop top rows))
  where
    front : Front (has_run r) [] (drop top rows) n
    front = record {
      within = omega (arith, length-drop top rows);
      pass = λ i lt. ap (has_run r) (get_or-drop top rows i []) ∙ same (top + i) (omega arith) (omega (arith, lt));
      stops = λ lt. ap (has_run r) (get_or-drop top rows n []) ∙ ends (omega (arith, lt, length-drop top rows));
    }

-- a stretch has one pixel
pub run_same : (row : List ℕ) (x n : ℕ) → x < length row → n ≡ stretch row x → (k : ℕ) → x ≤ k → k < x + n → get_or row k 0 ≡ get_or row x 0
run_same row x n inside e k le lt =
    ap (λ (i : ℕ). get_or row i 0) (let q : k ≡ x + (k - x) = omega arith in q) ∙ sym (get_or-drop x row (k - x) 0) ∙ eqb-true _ _ (front.pass (k - x) (omega arith))
  where
    test : ℕ → Bool
    test p = eqb p (slice_index row x)

    front : Front test 0 (drop x row) n
    front = subst (Front test 0 (drop x row)) (sym e) (prefix_is test 0 (drop x row))

-- ---- the subrectangles that begin in a row before x
abbrev pub found_before : ℕ → List (List ℕ) → ℕ → ℕ → List Subrectangle
found_before b rows y x = map (subrectangle_from rows y) (filter (begins_subrectangle b rows y) (range_with_len 0 x))

range_more : (a n : ℕ) → range_with_len a (n + 1) ≡ range_with_len a n ++ (a + n) ∷ []
range_more a n = rw add-one (range_suc a n)
  where
    range_suc : (a n : ℕ) → range_with_len a (suc n) ≡ range_with_len a n ++ (a + n) ∷ []
    range_suc a zero = ap (λ (k : ℕ). k ∷ []) (sym (add-zero a))
    range_suc a (suc n) =
        ap (λ (t : List ℕ). a ∷ t) (range_suc (a + 1) n ∙ ap (λ (k : ℕ). range_with_len (a + 1) n ++ k ∷ []) (let e : a + 1 + n ≡ a + suc n = omega arith in e))

pub one_more : (b : ℕ) (rows : List (List ℕ)) (y x : ℕ) → found_before b rows y (x + 1) ≡ found_before b rows y x ++ cond (begins_subrectangle b rows y x) (subrectangle_from rows y x ∷ []) []
one_more b rows y x =
    ap (λ (t : List ℕ). map (subrectangle_from rows y) (filter (begins_subrectangle b rows y) t)) (range_more 0 x ∙ ap (λ (k : ℕ). range_with_len 0 x ++ k ∷ []) (let e : 0 + x ≡ x = omega arith in e))
    ∙ ap (map (subrectangle_from rows y)) (filter-append (begins_subrectangle b rows y) (range_with_len 0 x) (x ∷ []))
    ∙ map-append (subrectangle_from rows y) (filter (begins_subrectangle b rows y) (range_with_len 0 x)) (filter (begins_subrectangle b rows y) (x ∷ []))
    ∙ ap (λ (t : List Subrectangle). found_before b rows y x ++ t) (last (begins_subrectangle b rows y x))
  where
    last : (t : Bool) → map (subrectangle_from rows y) (cond t (x ∷ []) []) ≡ cond t (subrectangle_from rows y x ∷ []) []
    last true = refl
    last false = refl

-- a run is stepped over
pub record Step (b : ℕ) (rows : List (List ℕ)) (y x n : ℕ) : Type 0 where
  pub begins : x + n < length (row_at rows y) → begins_run (row_at rows y) (x + n) ≡ true
  pub found : found_before b rows y (x + n) ≡ found_before b rows y x ++ cond (begins_subrectangle b rows y x) (subrectangle_from rows y x ∷ []) []

and_no : (a c d : Bool) → c ≡ false → d ≡ true → (a && (c || not d)) ≡ false
and_no true c d e f = rw (e, f) refl
and_no false c d e f = refl

and_yes : (a c d : Bool) → a ≡ true → d ≡ false → (a && (c || not d)) ≡ true
and_yes a true d e f = rw e refl
and_yes a false d e f = rw (e, f) refl

-- none begins within a run
no_run : (row : List ℕ) (k : ℕ) → get_or row k 0 ≡ get_or row (k + 1) 0 → begins_run row (k + 1) ≡ false
no_run row k e =
    and_no (ltb (k + 1) (length row)) (eqb (k + 1) 0) (eqb (slice_index row (k + 1 - 1)) (slice_index row (k + 1))) (unequal _ _ (λ q. omega (arith, q)))
    (eq-eqb _ _ (ap (λ (i : ℕ). get_or row i 0) (let q : k + 1 - 1 ≡ k = omega arith in q) ∙ e))

pub some_run : (row : List ℕ) (k : ℕ) → k < length row → (get_or row (k - 1) 0 ≡ get_or row k 0 → ⊥) → begins_run row k ≡ true
some_run row k lt ne = and_yes (ltb k (length row)) (eqb k 0) (eqb (slice_index row (k - 1)) (slice_index row k)) (lt-ltb _ _ lt) (unequal _ _ ne)

none_begins : (b : ℕ) (rows : List (List ℕ)) (y x : ℕ) (t : Bool) → begins_run (row_at rows y) x ≡ t → t ≡ false → begins_subrectangle b rows y x ≡ false
none_begins b rows y x t e f = rw (e, f) refl

within_run : (b : ℕ) (rows : List (List ℕ)) (y x m : ℕ) → ((k : ℕ) → x ≤ k → k < x + 1 + m → get_or (row_at rows y) k 0 ≡ get_or (row_at rows y) x 0)
    → found_before b rows y (x + 1 + m) ≡ found_before b rows y (x + 1)
within_run b rows y x zero same = ap (found_before b rows y) (add-zero (x + 1))
within_run b rows y x (suc m) same =
    ap (found_before b rows y) (let e : x + 1 + suc m ≡ x + 1 + m + 1 = omega arith in e)
    ∙ one_more b rows y (x + 1 + m)
    ∙ ap (λ (t : Bool). found_before b rows y (x + 1 + m) ++ cond t (subrectangle_from rows y (x + 1 + m) ∷ []) []) none
    ∙ append-nil (found_before b rows y (x + 1 + m))
    ∙ within_run b rows y x m (λ k le lt. same k le (omega (arith, lt)))
  where
    at : x + 1 + m ≡ x + m + 1
    at = omega arith

    none : begins_subrectangle b rows y (x + 1 + m) ≡ false
    none =
        none_begins b rows y (x + 1 + m) (begins_run (row_at rows y) (x + 1 + m)) refl
        (ap (begins_run (row_at rows y)) at ∙ no_run (row_at rows y) (x + m) (same (x + m) (omega arith) (omega arith) ∙ sym (same (x + m + 1) (omega arith) (omega arith))))

pub scan_step : (b : ℕ) (rows : List (List ℕ)) (y x n : ℕ) → x < length (row_at rows y) → n ≡ stretch (row_at rows y) x → Step b rows y x n
scan_step b rows y x n inside e =
    record { begins = begins; found = found }
  where
    row : List ℕ
    row = row_at rows y

    test : ℕ → Bool
    test p = eqb p (slice_index row x)

    front : Front test 0 (drop x row) n
    front = subst (Front test 0 (drop x row)) (sym e) (prefix_is test 0 (drop x row))

    same : (k : ℕ) → x ≤ k → k < x + n → get_or row k 0 ≡ get_or row x 0
    same k le lt =
        ap (λ (i : ℕ). get_or row i 0) (let q : k ≡ x + (k - x) = omega arith in q) ∙ sym (get_or-drop x row (k - x) 0) ∙ eqb-true _ _ (front.pass (k - x) (omega arith))

    first : get_or (drop x row) 0 0 ≡ get_or row x 0
    first = get_or-drop x row 0 0 ∙ ap (λ (i : ℕ). get_or row i 0) (add-zero x)

    some : 0 < n
    some = elim (cases_lt 0 n) [
      | inl lt ↦ lt
      | inr le ↦ absurd (eqb-false _ _ (front.stops (omega (arith, length-drop x row, inside))) (ap (λ (k : ℕ). get_or (drop x row) k 0) (let z : n ≡ 0 = omega arith in z) ∙ first))
    ]

    apart : x + n < length row → get_or row (x + n) 0 ≡ get_or row x 0 → ⊥
    apart lt q = eqb-false _ _ (front.stops (omega (arith, length-drop x row))) (get_or-drop x row n 0 ∙ q)

    begins : x + n < length row → begins_run row (x + n) ≡ true
    begins lt = some_run row (x + n) lt (λ q. apart lt (sym q ∙ same (x + n - 1) (omega (arith, some)) (omega (arith, some))))

    found : found_before b rows y (x + n) ≡ found_before b rows y x ++ cond (begins_subrectangle b rows y x) (subrectangle_from rows y x ∷ []) []
    found =
        let p : x + n ≡ x + 1 + (n - 1) = omega (arith, some) in
        ap (found_before b rows y) p ∙ within_run b rows y x (n - 1) (λ k le lt. same k le (omega (arith, lt, some))) ∙ one_more b rows y x

-- the bytes of a subrectangle that begins with the run, and none where none does
pub put_yes : (sb : Subrectangle → List ℕ) (old now : List ℕ) (b : ℕ) (rows : List (List ℕ)) (y x n : ℕ) (s : Subrectangle) → Step b rows y x n
    → now ≡ old ++ flat_map sb (found_before b rows y x) → begins_subrectangle b rows y x ≡ true → s ≡ subrectangle_from rows y x
    → now ++ sb s ≡ old ++ flat_map sb (found_before b rows y (x + n))
put_yes sb old now b rows y x n s step before begins same =
    ap (λ (t : List ℕ). t ++ sb s) before ∙ append_assoc old (flat_map sb (found_before b rows y x)) (sb s)
    ∙ ap (λ (t : Subrectangle). old ++ (flat_map sb (found_before b rows y x) ++ sb t)) same
    ∙ ap (λ (t : List ℕ). old ++ t) (sym all)
  where
    one : List Subrectangle
    one = subrectangle_from rows y x ∷ []

    all : flat_map sb (found_before b rows y (x + n)) ≡ flat_map sb (found_before b rows y x) ++ sb (subrectangle_from rows y x)
    all =
        ap (flat_map sb) (step.found ∙ ap (λ (t : Bool). found_before b rows y x ++ cond t one []) begins) ∙ flat_map-append sb (found_before b rows y x) one
        ∙ ap (λ (t : List ℕ). flat_map sb (found_before b rows y x) ++ t) (append-nil (sb (subrectangle_from rows y x)))

pub put_no : (sb : Subrectangle → List ℕ) (old now : List ℕ) (b : ℕ) (rows : List (List ℕ)) (y x n : ℕ) → Step b rows y x n
    → now ≡ old ++ flat_map sb (found_before b rows y x) → begins_subrectangle b rows y x ≡ false → now ≡ old ++ flat_map sb (found_before b rows y (x + n))
put_no sb old now b rows y x n step before begins =
    before ∙ ap (λ (t : List Subrectangle). old ++ flat_map sb t)
    (sym (step.found ∙ ap (λ (t : Bool). found_before b rows y x ++ cond t (subrectangle_from rows y x ∷ []) []) begins ∙ append-nil (found_before b rows y x)))

abbrev run : ℕ → ℕ → ℕ → Run
run x w p = record { x = x; w = w; pixel = p }

abbrev sub : ℕ → ℕ → ℕ → ℕ → ℕ → Subrectangle
sub x y w h p = record { x = x; y = y; w = w; h = h; pixel = p }

pub sub_is : (rows : List (List ℕ)) (y x n h p : ℕ) → n ≡ stretch (row_at rows y) x → p ≡ slice_index (row_at rows y) x → h ≡ prefix_len (has_run (run x n p)) (drop y rows)
    → sub x y n h p ≡ subrectangle_from rows y x
sub_is rows y x n h p e f g =
    ap (λ (t : ℕ). sub x y n t p) high ∙ ap (λ (t : ℕ). sub x y t there p) e ∙ ap (λ (t : ℕ). sub x y (stretch (row_at rows y) x) there t) f
  where
    there : ℕ
    there = prefix_len (has_run (run x (stretch (row_at rows y) x) (slice_index (row_at rows y) x))) (drop y rows)

    high : h ≡ there
    high = g ∙ ap (λ (t : ℕ). prefix_len (has_run (run x t p)) (drop y rows)) e ∙ ap (λ (t : ℕ). prefix_len (has_run (run x (stretch (row_at rows y) x) t)) (drop y rows)) f

-- ---- all rows

pub row_more : {X : Type 0} (f : ℕ → List X) (y : ℕ) → flat_map f (range_with_len 0 (y + 1)) ≡ flat_map f (range_with_len 0 y) ++ f y
row_more {X} f y =
    ap (flat_map f) (range_more 0 y ∙ ap (λ (k : ℕ). range_with_len 0 y ++ k ∷ []) (let e : 0 + y ≡ y = omega arith in e))
    ∙ flat_map-append f (range_with_len 0 y) (y ∷ []) ∙ ap (λ (t : List X). flat_map f (range_with_len 0 y) ++ t) (append-nil (f y))

pub fewer_rows : {X : Type 0} (f : ℕ → List X) (y m : ℕ) → length (flat_map f (range_with_len 0 y)) ≤ length (flat_map f (range_with_len 0 (y + m)))
fewer_rows {X} f y zero = rw (add-zero y) (omega arith)
fewer_rows {X} f y (suc m) =
    let e : y + suc m ≡ y + m + 1 = omega arith in
    let more = fewer_rows f y m in
    rw e (omega (arith, more, ap (length {A = X}) (row_more f (y + m)), length-append (flat_map f (range_with_len 0 (y + m))) (f (y + m))))

-- ---- a row that is the one above

none_kept : (p : ℕ → Bool) (xs : List ℕ) → ((x : ℕ) → p x ≡ false) → filter p xs ≡ []
none_kept p [] none = refl
none_kept p (x ∷ xs) none = step (p x) (none x) (none_kept p xs none)
  where
    step : (t : Bool) → t ≡ false → filter p xs ≡ [] → cond t (x ∷ filter p xs) (filter p xs) ≡ []
    step true e more = absurd cc
    step false e more = more

not_twice : (a o : Bool) → (a && o && not (a && true && true)) ≡ false
not_twice true true = refl
not_twice true false = refl
not_twice false o = refl

pub none_in_repeated : (rows : List (List ℕ)) (y : ℕ) → 0 < y → row_at rows y ≡ row_at rows (y - 1) → (b : ℕ) → subrectangles_in b rows y ≡ []
none_in_repeated rows y some same b = ap (map (subrectangle_from rows y)) (none_kept (begins_subrectangle b rows y) (range_with_len 0 (length (row_at rows y))) none)
  where
    row : List ℕ
    row = row_at rows y

    none : (x : ℕ) → begins_subrectangle b rows y x ≡ false
    none x =
        ap (λ (r : List ℕ). begins_run row x && not (eqb (slice_index row x) b) && not (ltb 0 y && has_run (run_at row x) r)) (sym same)
        ∙ ap (λ (t : Bool). begins_run row x && not (eqb (slice_index row x) b) && not (t && has_run (run_at row x) row)) (lt-ltb 0 y some)
        ∙ ap (λ (t : Bool). begins_run row x && not (eqb (slice_index row x) b) && not (begins_run row x && t && eqb (stretch row x) (stretch row x))) (eq-eqb (slice_index row x) (slice_index row x) refl)
        ∙ ap (λ (t : Bool). begins_run row x && not (eqb (slice_index row x) b) && not (begins_run row x && true && t)) (eq-eqb (stretch row x) (stretch row x) refl)
        ∙ not_twice (begins_run row x) (not (eqb (slice_index row x) b))
