-- Subrectangles painted over the background show each pixel.
use Rattle.std.proofs.Common.{◌≡◌, ℕ, zero, suc, ◌+◌, ◌-◌, ◌<◌, ◌≤◌, ◌⊎◌, inl, inr, Bool, true, false, not, ◌&&◌, cond, eqb, ltb, List, [], ◌∷◌, length, drop, get_or, slice_index, Contains, refl, sym, ap, ◌∙◌, arith}
use Rattle.std.specs.List.{prefix_len}
use Rattle.std.proofs.lemmas.Bool.{eq-eqb, eqb-true, lt-ltb, le-leb, cases_eq, cases_lt}
use Rattle.std.proofs.lemmas.List.{get_or-drop, length-drop}
use Rattle.encode_raw.specs.Reading.{Patch, is_inside}
use Rattle.subrectangles.specs.declared.Subrectangle.{Subrectangle}
use Rattle.subrectangles.specs.declared.scan.Run.{Run}
use Rattle.subrectangles.specs.Reading.{painted}
use Rattle.subrectangles.specs.Subrectangles.{IsSubrectangle, row_at, pixel_in, begins_run, stretch, has_run, run_at, is_above, begins_subrectangle, subrectangle_from, subrectangles}
use Rattle.subrectangles.specs.Runs.{Front, prefix_is, subrectangle_from_is}
use Rattle.subrectangles.specs.Listed.{lists_the_subrectangles, head_of, tail_of, cases_of, not_in_none}
use Rattle.subrectangles.specs.Scans.{some_run, unequal}

abbrev pub covers : Subrectangle → ℕ → ℕ → Bool
covers s x y = is_inside (record { x = s.x; y = s.y; w = s.w; h = s.h }) x y

-- one after the other
unfoldable pub paint : List Subrectangle → Patch → Patch
paint [] patch = patch
paint (s ∷ subs) patch = paint subs (painted s patch)

pub record Covering (subs : List Subrectangle) (x y : ℕ) : Type 0 where
  pub one : Subrectangle
  pub there : Contains subs one
  pub covers : covers one x y ≡ true

not_both : (b : Bool) → b ≡ true → b ≡ false → ⊥
not_both b e f = cc

pub paint_is : (subs : List Subrectangle) (patch : Patch) (x y v : ℕ) → ((s : Subrectangle) → Contains subs s → covers s x y ≡ true → s.pixel ≡ v)
    → (patch x y ≡ v) ⊎ Covering subs x y → paint subs patch x y ≡ v
unfolding paint
paint_is [] patch x y v each h = elim h [ inl e ↦ e | inr k ↦ absurd (not_in_none k.one k.there) ]
paint_is (s ∷ subs) patch x y v each h =
    paint_is subs (painted s patch) x y v (λ t c e. each t (tail_of s subs t c) e) (step (covers s x y) refl h)
  where
    step : (t : Bool) → covers s x y ≡ t → (patch x y ≡ v) ⊎ Covering (s ∷ subs) x y → (cond t s.pixel (patch x y) ≡ v) ⊎ Covering subs x y
    step true e g = inl (each s (head_of s subs) e)
    step false e (inl g) = inl g
    step false e (inr k) = elim (cases_of s subs k.one k.there) [
      | inl same ↦ absurd (not_both (covers k.one x y) k.covers (ap (λ (t : Subrectangle). covers t x y) (sym same) ∙ e))
      | inr c ↦ inr (record { one = k.one; there = c; covers = k.covers })
    ]

-- ---- each place that isn't of the background is in a subrectangle

pub record Start (row : List ℕ) (x : ℕ) : Type 0 where
  pub from : ℕ
  pub before : from ≤ x
  pub begins : begins_run row from ≡ true
  pub same : (k : ℕ) → from ≤ k → k < x + 1 → get_or row k 0 ≡ get_or row x 0

first_begins : (row : List ℕ) → 0 < length row → begins_run row 0 ≡ true
first_begins row lt = rw (lt-ltb 0 (length row) lt) refl

start_of : (row : List ℕ) (x : ℕ) → x < length row → Start row x
start_of row zero lt = record { from = 0; before = omega arith; begins = first_begins row lt; same = λ k le below. ap (λ (i : ℕ). get_or row i 0) (let e : k ≡ 0 = omega arith in e) }
start_of row (suc x) lt =
    let more = start_of row x (omega arith) in
    elim (cases_eq (get_or row x 0) (get_or row (suc x) 0)) [
      | inl e ↦ record {
        from = more.from;
        before = omega (arith, more.before);
        begins = more.begins;
        same = λ k le below. elim (cases_eq k (suc x)) [
          | inl here ↦ ap (λ (i : ℕ). get_or row i 0) here
          | inr ne ↦ more.same k le (omega arith) ∙ e
        ];
      }
      | inr ne ↦ record {
        from = suc x;
        before = omega arith;
        begins = some_run row (suc x) lt (λ q. ne (ap (λ (i : ℕ). get_or row i 0) (let e : x ≡ suc x - 1 = omega arith in e) ∙ q));
        same = λ k le below. ap (λ (i : ℕ). get_or row i 0) (let e : k ≡ suc x = omega arith in e);
      }
    ]

pub record Top (rows : List (List ℕ)) (r : Run) (y : ℕ) : Type 0 where
  pub from : ℕ
  pub before : from ≤ y
  pub have : (k : ℕ) → from ≤ k → k < y + 1 → has_run r (row_at rows k) ≡ true
  pub above : is_above rows from r ≡ false

and_false : (a b : Bool) → b ≡ false → (a && b) ≡ false
and_false true b e = e
and_false false b e = refl

top_of : (rows : List (List ℕ)) (r : Run) (y : ℕ) → has_run r (row_at rows y) ≡ true → Top rows r y
top_of rows r zero e = record { from = 0; before = omega arith; have = λ k le below. ap (λ (i : ℕ). has_run r (row_at rows i)) (let q : k ≡ 0 = omega arith in q) ∙ e; above = refl }
top_of rows r (suc y) e =
    let more = top_of rows r y in
    step (has_run r (row_at rows y)) refl more
  where
    step : (t : Bool) → has_run r (row_at rows y) ≡ t → (has_run r (row_at rows y) ≡ true → Top rows r y) → Top rows r (suc y)
    step true h more =
        let m = more h in record {
          from = m.from;
          before = omega (arith, m.before);
          have = λ k le below. elim (cases_eq k (suc y)) [
            | inl here ↦ ap (λ (i : ℕ). has_run r (row_at rows i)) here ∙ e
            | inr ne ↦ m.have k le (omega arith)
          ];
          above = m.above;
        }
    step false h more = record {
      from = suc y;
      before = omega arith;
      have = λ k le below. ap (λ (i : ℕ). has_run r (row_at rows i)) (let q : k ≡ suc y = omega arith in q) ∙ e;
      above = and_false (ltb 0 (suc y)) (has_run r (row_at rows (suc y - 1))) (ap (λ (i : ℕ). has_run r (row_at rows i)) (let q : suc y - 1 ≡ y = omega arith in q) ∙ h);
    }

-- as many pass as are known to
passes_more : {X : Type 0} (p : X → Bool) (d : X) (xs : List X) (n m : ℕ) → Front p d xs n → m < length xs → ((k : ℕ) → k < m + 1 → p (get_or xs k d) ≡ true) → m < n
passes_more p d xs n m front inside each = elim (cases_lt m n) [
  | inl lt ↦ lt
  | inr le ↦ absurd (not_both _ (each n (omega arith)) (front.stops (omega arith)))
]

pub and_true : (a b : Bool) → (a && b) ≡ true → (a ≡ true) × (b ≡ true)
and_true true b e = (refl, e)
and_true false b e = absurd cc

both : (a b : Bool) → a ≡ true → b ≡ true → (a && b) ≡ true
both a b e f = rw (e, f) refl

not_false : (b : Bool) → b ≡ false → not b ≡ true
not_false b e = rw e refl

abbrev run : ℕ → ℕ → ℕ → Run
run x w p = record { x = x; w = w; pixel = p }

pub covered : (b : ℕ) (rows : List (List ℕ)) (x y : ℕ) → y < length rows → x < length (row_at rows y) → (pixel_in rows x y ≡ b → ⊥) → Covering (subrectangles b rows) x y
covered b rows x y high wide other =
    record { one = one; there = (lists_the_subrectangles rows b one).1 is; covers = covers_it }
  where
    row : List ℕ
    row = row_at rows y

    s : Start row x
    s = start_of row x wide

    r : Run
    r = run_at row s.from

    t : Top rows r y
    t = top_of rows r y (both _ _ (both _ _ s.begins (eq-eqb _ _ refl)) (eq-eqb _ _ refl))

    has : has_run r (row_at rows t.from) ≡ true
    has = t.have t.from (omega arith) (omega (arith, t.before))

    parts : ((begins_run (row_at rows t.from) s.from && eqb (slice_index (row_at rows t.from) s.from) r.pixel) ≡ true) × (eqb (stretch (row_at rows t.from) s.from) r.w ≡ true)
    parts = and_true _ _ has

    two : (begins_run (row_at rows t.from) s.from ≡ true) × (eqb (slice_index (row_at rows t.from) s.from) r.pixel ≡ true)
    two = and_true _ _ parts.0

    pixel : slice_index (row_at rows t.from) s.from ≡ r.pixel
    pixel = eqb-true _ _ two.1

    width : stretch (row_at rows t.from) s.from ≡ r.w
    width = eqb-true _ _ parts.1

    same_run : run_at (row_at rows t.from) s.from ≡ r
    same_run = ap (λ (w : ℕ). run s.from w (slice_index (row_at rows t.from) s.from)) width ∙ ap (λ (p : ℕ). run s.from r.w p) pixel

    one : Subrectangle
    one = subrectangle_from rows t.from s.from

    here : r.pixel ≡ pixel_in rows x y
    here = s.same s.from (omega arith) (omega (arith, s.before))

    begins : begins_subrectangle b rows t.from s.from ≡ true
    begins =
        both _ _ (both _ _ two.0 (not_false _ (unequal _ _ (λ q. other (sym here ∙ sym pixel ∙ q)))))
        (not_false _ (ap (is_above rows t.from) same_run ∙ t.above))

    is : IsSubrectangle rows b one
    is = subrectangle_from_is b rows t.from s.from (omega (arith, t.before)) begins

    test : ℕ → Bool
    test p = eqb p (slice_index row s.from)

    across : x - s.from < stretch row s.from
    across =
        passes_more test 0 (drop s.from row) (stretch row s.from) (x - s.from) (prefix_is test 0 (drop s.from row)) (omega (arith, length-drop s.from row, s.before))
        (λ k lt. eq-eqb _ _ (get_or-drop s.from row k 0 ∙ s.same (s.from + k) (omega arith) (omega (arith, lt, s.before)) ∙ sym here))

    down : y - t.from < prefix_len (has_run (run_at (row_at rows t.from) s.from)) (drop t.from rows)
    down =
        passes_more (has_run (run_at (row_at rows t.from) s.from)) [] (drop t.from rows) (prefix_len (has_run (run_at (row_at rows t.from) s.from)) (drop t.from rows)) (y - t.from)
        (prefix_is (has_run (run_at (row_at rows t.from) s.from)) [] (drop t.from rows)) (omega (arith, length-drop t.from rows, t.before))
        (λ k lt. ap (has_run (run_at (row_at rows t.from) s.from)) (get_or-drop t.from rows k []) ∙ ap (λ (q : Run). has_run q (row_at rows (t.from + k))) same_run
        ∙ t.have (t.from + k) (omega arith) (omega (arith, lt, t.before)))

    covers_it : covers one x y ≡ true
    covers_it =
        both _ _ (both _ _ (both _ _ (le-leb s.from x s.before) (lt-ltb x (s.from + stretch (row_at rows t.from) s.from) (omega (arith, across, width, s.before)))) (le-leb t.from y t.before))
        (lt-ltb y (t.from + prefix_len (has_run (run_at (row_at rows t.from) s.from)) (drop t.from rows)) (omega (arith, down, t.before)))
