-- A row passes the test for a run exactly where it has the run.
use Rattle.std.proofs.Common.{◌≡◌, ◌≢◌, ℕ, zero, suc, ◌+◌, ◌-◌, ◌<◌, ◌≤◌, inl, inr, Bool, true, false, cond, not, ◌&&◌, ◌||◌, eqb, ltb, List, [], ◌∷◌, length, drop, get_or, slice_index, refl, sym, ap, subst, ◌∙◌, arith, add-zero}
use Rattle.std.specs.List.{prefix_len}
use Rattle.std.proofs.lemmas.Bool.{eq-eqb, eqb-true, eqb-false, cases_order, cases_lt, lt-ltb, ltb-true}
use Rattle.std.proofs.lemmas.Bool.Decides.{eqb_tells}
use Rattle.std.proofs.lemmas.List.{get_or-drop, length-drop}
use Rattle.subrectangles.specs.declared.Subrectangle.{Subrectangle}
use Rattle.subrectangles.specs.declared.scan.Run.{Run}
use Rattle.subrectangles.specs.Subrectangles.{HasRun, has_run, begins_run, stretch, row_at, pixel_in, run_at, run_of, IsSubrectangle, is_above, begins_subrectangle, subrectangle_from}

-- n is how many pass the test from the front on
pub record Front {X : Type 0} (p : X → Bool) (d : X) (xs : List X) (n : ℕ) : Type 0 where
  pub within : n ≤ length xs
  pub pass : (i : ℕ) → i < n → p (get_or xs i d) ≡ true
  pub stops : n < length xs → p (get_or xs n d) ≡ false

not_both : (b : Bool) → b ≡ true → b ≡ false → ⊥
not_both b e f = cc

pub Front-one : {X : Type 0} (p : X → Bool) (d : X) (xs : List X) (n m : ℕ) → Front p d xs n → Front p d xs m → n ≡ m
Front-one p d xs n m h g =
    elim (cases_order n m) [
      | inl e ↦ e
      | inr o ↦ elim o [
        | inl lt ↦ absurd (not_both _ (g.pass n lt) (h.stops (omega (arith, g.within))))
        | inr gt ↦ absurd (not_both _ (h.pass m gt) (g.stops (omega (arith, h.within))))
      ]
    ]

Front-cons : {X : Type 0} (p : X → Bool) (d x : X) (xs : List X) (n : ℕ) (t : Bool) → p x ≡ t → Front p d xs n → Front p d (x ∷ xs) (cond t (1 + n) 0)
Front-cons p d x xs n false e h = record { within = omega arith; pass = λ i lt. absurd (omega arith); stops = λ lt. e }
Front-cons p d x xs n true e h = rw add_comm_one record {
  within = omega (arith, h.within);
  pass = passes;
  stops = λ lt. h.stops (omega arith);
}
  where
    add_comm_one : 1 + n ≡ suc n
    add_comm_one = omega arith

    passes : (i : ℕ) → i < suc n → p (get_or (x ∷ xs) i d) ≡ true
    passes zero lt = e
    passes (suc i) lt = h.pass i (omega arith)

pub prefix_is : {X : Type 0} (p : X → Bool) (d : X) (xs : List X) → Front p d xs (prefix_len p xs)
prefix_is p d [] = record { within = omega arith; pass = λ i lt. absurd (omega arith); stops = λ lt. absurd (omega arith) }
prefix_is p d (x ∷ xs) = Front-cons p d x xs (prefix_len p xs) (p x) refl (prefix_is p d xs)

-- ---- runs

or_not : (a b : Bool) → a ≡ false → (a || not b) ≡ true → b ≡ false
or_not true b e f = absurd cc
or_not false true e f = absurd cc
or_not false false e f = refl

and_true : (a b : Bool) → (a && b) ≡ true → (a ≡ true) × (b ≡ true)
and_true true b e = (refl, e)
and_true false b e = absurd cc

both : (a b : Bool) → a ≡ true → b ≡ true → (a && b) ≡ true
both a b e f = rw (e, f) refl

unequal : (a b : ℕ) → a ≢ b → eqb a b ≡ false
unequal a b ne = elim (eqb_tells a b) [ inl q ↦ absurd (ne q.1) | inr q ↦ q.0 ]

-- a row that has the run passes the test
pub has_run_true : (rows : List (List ℕ)) (y : ℕ) (r : Run) → HasRun rows y r → has_run r (row_at rows y) ≡ true
has_run_true rows y r h =
    both _ _ (both _ _ (both _ _ (lt-ltb r.x (length row) (omega (arith, h.some, h.inside))) before) (eq-eqb _ _ here)) (eq-eqb _ _ (Front-one test 0 (drop r.x row) (stretch row r.x) r.w (prefix_is test 0 (drop r.x row)) front))
  where
    row : List ℕ
    row = row_at rows y

    here : slice_index row r.x ≡ r.pixel
    here = h.same r.x (omega arith) (omega (arith, h.some))

    test : ℕ → Bool
    test p = eqb p (slice_index row r.x)

    front : Front test 0 (drop r.x row) r.w
    front = record {
      within = omega (arith, h.inside, length-drop r.x row);
      pass = λ i lt. eq-eqb _ _ (get_or-drop r.x row i 0 ∙ h.same (r.x + i) (omega arith) (omega (arith, lt)) ∙ sym here);
      stops = λ lt. unequal _ _ (λ e. h.right (omega (arith, lt, length-drop r.x row)) (sym (get_or-drop r.x row r.w 0) ∙ e ∙ here));
    }

    before : (eqb r.x 0 || not (eqb (slice_index row (r.x - 1)) (slice_index row r.x))) ≡ true
    before =
        elim (eqb_tells r.x 0) [
          | inl z ↦ rw z.0 refl
          | inr z ↦ rw (z.0, unequal (slice_index row (r.x - 1)) (slice_index row r.x) (λ e. h.left (r.x - 1) (omega (arith, z.1)) (e ∙ here))) refl
        ]

-- a row that passes the test has the run
pub has_run_is : (rows : List (List ℕ)) (y : ℕ) (r : Run) → y < length rows → has_run r (row_at rows y) ≡ true → HasRun rows y r
has_run_is rows y r inside e =
    record {
      row = inside;
      some = some;
      inside = omega (arith, front.within, length-drop r.x row, starts);
      same = λ x le lt. same x le lt;
      left = left;
      right = λ lt. right lt;
    }
  where
    row : List ℕ
    row = row_at rows y

    parts : ((begins_run row r.x && eqb (slice_index row r.x) r.pixel) ≡ true) × (eqb (stretch row r.x) r.w ≡ true)
    parts = and_true _ _ e

    two : (begins_run row r.x ≡ true) × (eqb (slice_index row r.x) r.pixel ≡ true)
    two = and_true _ _ parts.0

    begin : (ltb r.x (length row) ≡ true) × ((eqb r.x 0 || not (eqb (slice_index row (r.x - 1)) (slice_index row r.x))) ≡ true)
    begin = and_true _ _ two.0

    starts : r.x < length row
    starts = ltb-true _ _ begin.0

    here : slice_index row r.x ≡ r.pixel
    here = eqb-true _ _ two.1

    test : ℕ → Bool
    test p = eqb p (slice_index row r.x)

    front : Front test 0 (drop r.x row) r.w
    front = subst (Front test 0 (drop r.x row)) (eqb-true _ _ parts.1) (prefix_is test 0 (drop r.x row))

    first : slice_index (drop r.x row) 0 ≡ slice_index row r.x
    first = get_or-drop r.x row 0 0 ∙ ap (λ (i : ℕ). slice_index row i) (add-zero r.x)

    some : 0 < r.w
    some = elim (cases_lt 0 r.w) [
      | inl lt ↦ lt
      | inr le ↦ absurd (eqb-false _ _ (front.stops (omega (arith, length-drop r.x row, starts))) (ap (λ (n : ℕ). get_or (drop r.x row) n 0) (let z : r.w ≡ 0 = omega arith in z) ∙ first))
    ]

    same : (x : ℕ) → r.x ≤ x → x < r.x + r.w → slice_index row x ≡ r.pixel
    same x le lt =
        ap (λ (i : ℕ). slice_index row i) (let q : x ≡ r.x + (x - r.x) = omega arith in q)
        ∙ sym (get_or-drop r.x row (x - r.x) 0) ∙ eqb-true _ _ (front.pass (x - r.x) (omega arith)) ∙ here

    right : r.x + r.w < length row → slice_index row (r.x + r.w) ≢ r.pixel
    right lt q = eqb-false _ _ (front.stops (omega (arith, length-drop r.x row))) (get_or-drop r.x row r.w 0 ∙ q ∙ sym here)

    left : (x : ℕ) → x + 1 ≡ r.x → slice_index row x ≢ r.pixel
    left x q w =
        let apart : eqb (slice_index row (r.x - 1)) (slice_index row r.x) ≡ false = or_not _ _ (unequal r.x 0 (λ z. omega arith)) begin.1 in
        eqb-false _ _ apart (ap (λ (i : ℕ). slice_index row i) (let z : r.x - 1 ≡ x = omega arith in z) ∙ w ∙ sym here)

-- ---- subrectangles

is_not : (b : Bool) → not b ≡ true → b ≡ false
is_not true e = absurd cc
is_not false e = refl

-- what begins at a place is a subrectangle
pub subrectangle_from_is : (b : ℕ) (rows : List (List ℕ)) (y x : ℕ) → y < length rows → begins_subrectangle b rows y x ≡ true → IsSubrectangle rows b (subrectangle_from rows y x)
subrectangle_from_is b rows y x inside e =
    record { high = high; other = other; rows_have = rows_have; above = above; below = below }
  where
    r : Run
    r = run_at (row_at rows y) x

    h : ℕ
    h = prefix_len (has_run r) (drop y rows)

    front : Front (has_run r) [] (drop y rows) h
    front = prefix_is (has_run r) [] (drop y rows)

    parts : ((begins_run (row_at rows y) x && not (eqb (pixel_in rows x y) b)) ≡ true) × (not (is_above rows y r) ≡ true)
    parts = and_true _ _ e

    two : (begins_run (row_at rows y) x ≡ true) × (not (eqb (pixel_in rows x y) b) ≡ true)
    two = and_true _ _ parts.0

    here : has_run r (row_at rows y) ≡ true
    here = both _ _ (both _ _ two.0 (eq-eqb _ _ refl)) (eq-eqb _ _ refl)

    first : get_or (drop y rows) 0 [] ≡ row_at rows y
    first = get_or-drop y rows 0 [] ∙ ap (λ (i : ℕ). row_at rows i) (add-zero y)

    high : 0 < h
    high = elim (cases_lt 0 h) [
      | inl lt ↦ lt
      | inr le ↦ absurd (not_both _ here (ap (has_run r) (sym first ∙ ap (λ (n : ℕ). get_or (drop y rows) n []) (let z : 0 ≡ h = omega arith in z)) ∙ front.stops (omega (arith, length-drop y rows, inside))))
    ]

    other : pixel_in rows x y ≢ b
    other q = eqb-false _ _ (is_not _ two.1) q

    rows_have : (j : ℕ) → y ≤ j → j < y + h → HasRun rows j r
    rows_have j le lt =
        has_run_is rows j r (omega (arith, front.within, length-drop y rows))
        (ap (λ (i : ℕ). has_run r (row_at rows i)) (let q : j ≡ y + (j - y) = omega arith in q)
        ∙ ap (has_run r) (sym (get_or-drop y rows (j - y) [])) ∙ front.pass (j - y) (omega arith))

    above : (j : ℕ) → j + 1 ≡ y → HasRun rows j r → ⊥
    above j q has =
        not_both _ (both _ _ (lt-ltb 0 y (omega arith)) (ap (λ (i : ℕ). has_run r (row_at rows i)) (let z : y - 1 ≡ j = omega arith in z) ∙ has_run_true rows j r has)) (is_not _ parts.1)

    below : HasRun rows (y + h) r → ⊥
    below has =
        not_both _ (has_run_true rows (y + h) r has) (ap (has_run r) (sym (get_or-drop y rows h [])) ∙ front.stops (omega (arith, length-drop y rows, has.row)))

-- a subrectangle begins at its place, and is the one that begins there
pub record Begins (b : ℕ) (rows : List (List ℕ)) (s : Subrectangle) : Type 0 where
  pub row : s.y < length rows
  pub place : s.x < length (row_at rows s.y)
  pub begins : begins_subrectangle b rows s.y s.x ≡ true
  pub same : subrectangle_from rows s.y s.x ≡ s

abbrev run : ℕ → ℕ → ℕ → Run
run x w p = record { x = x; w = w; pixel = p }

abbrev sub : ℕ → ℕ → ℕ → ℕ → ℕ → Subrectangle
sub x y w h p = record { x = x; y = y; w = w; h = h; pixel = p }

false_unless : (b : Bool) → (b ≡ true → ⊥) → b ≡ false
false_unless true h = absurd (h refl)
false_unless false h = refl

not_false : (b : Bool) → b ≡ false → not b ≡ true
not_false b e = rw e refl

pub begins_there : (b : ℕ) (rows : List (List ℕ)) (s : Subrectangle) → IsSubrectangle rows b s → Begins b rows s
begins_there b rows s h =
    record {
      row = has.row;
      place = omega (arith, has.some, has.inside);
      begins = both _ _ (both _ _ two.0 (not_false _ (unequal _ _ (λ q. h.other (sym pixel ∙ q))))) (not_false _ (false_unless _ (λ q. no_above (ap (is_above rows s.y) (sym same_run) ∙ q))));
      same = ap (λ (w : ℕ). sub s.x s.y w (height (run_at row s.x)) (slice_index row s.x)) width
          ∙ ap (λ (p : ℕ). sub s.x s.y s.w (height (run_at row s.x)) p) pixel
          ∙ ap (λ (n : ℕ). sub s.x s.y s.w n s.pixel) (ap height same_run ∙ high);
    }
  where
    row : List ℕ
    row = row_at rows s.y

    r : Run
    r = run_of s

    has : HasRun rows s.y r
    has = h.rows_have s.y (omega arith) (omega (arith, h.high))

    parts : ((begins_run row s.x && eqb (slice_index row s.x) s.pixel) ≡ true) × (eqb (stretch row s.x) s.w ≡ true)
    parts = and_true _ _ (has_run_true rows s.y r has)

    two : (begins_run row s.x ≡ true) × (eqb (slice_index row s.x) s.pixel ≡ true)
    two = and_true _ _ parts.0

    pixel : slice_index row s.x ≡ s.pixel
    pixel = eqb-true _ _ two.1

    width : stretch row s.x ≡ s.w
    width = eqb-true _ _ parts.1

    same_run : run_at row s.x ≡ r
    same_run = ap (λ (w : ℕ). run s.x w (slice_index row s.x)) width ∙ ap (λ (p : ℕ). run s.x s.w p) pixel

    no_above : is_above rows s.y r ≡ true → ⊥
    no_above q =
        let z = and_true _ _ q in
        let y_positive = ltb-true 0 s.y z.0 in
        h.above (s.y - 1) (omega (arith, y_positive)) (has_run_is rows (s.y - 1) r (omega (arith, has.row)) z.1)

    height : Run → ℕ
    height q = prefix_len (has_run q) (drop s.y rows)

    last : HasRun rows (s.y + s.h - 1) r
    last = h.rows_have (s.y + s.h - 1) (omega (arith, h.high)) (omega (arith, h.high))

    front : Front (has_run r) [] (drop s.y rows) s.h
    front = record {
      within = omega (arith, length-drop s.y rows, last.row, h.high);
      pass = λ i lt. ap (has_run r) (get_or-drop s.y rows i []) ∙ has_run_true rows (s.y + i) r (h.rows_have (s.y + i) (omega arith) (omega (arith, lt)));
      stops = λ lt. false_unless _ (λ q. h.below (has_run_is rows (s.y + s.h) r (omega (arith, lt, length-drop s.y rows)) (ap (has_run r) (sym (get_or-drop s.y rows s.h [])) ∙ q)));
    }

    high : height r ≡ s.h
    high = Front-one (has_run r) [] (drop s.y rows) (height r) s.h (prefix_is (has_run r) [] (drop s.y rows)) front
