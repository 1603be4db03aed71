-- Places that begin a subrectangle unless they are of the background.
use Rattle.std.proofs.Common.{◌≡◌, ℕ, zero, suc, ◌+◌, ◌-◌, ◌*◌, ◌/◌, ◌%◌, ◌<◌, ◌≤◌, ◌&&◌, inl, inr, Bool, true, false, not, cond, eqb, List, [], ◌∷◌, length, get_or, refl, sym, ap, ◌∙◌, subst, arith, length-append}
use Rattle.std.specs.List.{flat_map, range_with_len}
use Rattle.std.proofs.lemmas.Bool.{eq-eqb, eqb-false, ltb-true, cases_eq}
use Rattle.subrectangles.specs.declared.Subrectangle.{Subrectangle}
use Rattle.subrectangles.specs.Breaks.{is_break, breaks, is_like, breaks_like}
use Rattle.subrectangles.specs.Subrectangles.{row_at, pixel_in, begins_subrectangle, subrectangle_from, subrectangles_in}
use Rattle.subrectangles.specs.Scans.{found_before, one_more, some_run, unequal, row_more}

and_true : (a b : Bool) → (a && b) ≡ true → (a ≡ true) × (b ≡ true)
and_true true b e = (refl, e)
and_true false b e = absurd cc

and_false : (a b : Bool) → b ≡ false → (a && b) ≡ false
and_false true b e = e
and_false false b e = refl

both : (a b : Bool) → a ≡ true → b ≡ true → (a && b) ≡ true
both a b e f = rw (e, f) refl

is_not : (b : Bool) → not b ≡ true → b ≡ false
is_not true e = absurd cc
is_not false e = refl

not_false : (b : Bool) → b ≡ false → not b ≡ true
not_false b e = rw e refl

left_false : (a b : Bool) → a ≡ false → (a && b) ≡ false
left_false a b e = rw e refl

record Break (row above : List ℕ) (x : ℕ) : Type 0 where
  some : 0 < x
  before : get_or row (x - 1) 0 ≡ get_or row x 0 → ⊥
  over : get_or above x 0 ≡ get_or row x 0 → ⊥

break_is : (row above : List ℕ) (x : ℕ) → is_break row above x ≡ true → Break row above x
break_is row above x e =
    let two = and_true _ _ e in
    let one = and_true _ _ two.0 in
    record {
      some = ltb-true 0 x one.0;
      before = eqb-false _ _ (is_not _ one.1);
      over = eqb-false _ _ (is_not _ two.1);
    }

-- such a place begins a subrectangle over any other background
break_begins : (b : ℕ) (rows : List (List ℕ)) (y x : ℕ) → x < length (row_at rows y) → Break (row_at rows y) (row_at rows (y - 1)) x → (pixel_in rows x y ≡ b → ⊥)
    → begins_subrectangle b rows y x ≡ true
break_begins b rows y x inside k other =
    both _ _ (both _ _ (some_run (row_at rows y) x inside k.before) (not_false _ (unequal _ _ other)))
    (not_false _ (and_false _ _ (left_false _ _ (and_false _ _ (unequal _ _ k.over)))))

-- whether the last place passed is not of the background
abbrev other_last : ℕ → List ℕ → ℕ → ℕ
other_last b row zero = 0
other_last b row (suc x) = cond (eqb (get_or row x 0) b) 0 1

other_small : (b : ℕ) (row : List ℕ) (x : ℕ) → other_last b row x ≤ 1
other_small b row zero = omega arith
other_small b row (suc x) = at (eqb (get_or row x 0) b)
  where
    at : (t : Bool) → cond t 0 1 ≤ 1
    at true = omega arith
    at false = omega arith

other_is : (b : ℕ) (row : List ℕ) (x : ℕ) → 0 < x → (get_or row (x - 1) 0 ≡ b → ⊥) → other_last b row x ≡ 1
other_is b row zero some ne = absurd (omega arith)
other_is b row (suc x) some ne = ap (λ (t : Bool). cond {A = ℕ} t 0 1) (unequal (get_or row x 0) b (λ e. ne (ap (λ (i : ℕ). get_or row i 0) (let q : suc x - 1 ≡ x = omega arith in q) ∙ e)))

found_len : (b : ℕ) (rows : List (List ℕ)) (y x : ℕ) (t : Bool) → begins_subrectangle b rows y x ≡ t
    → length (found_before b rows y (suc x)) ≡ length (found_before b rows y x) + cond t 1 0
found_len b rows y x t e =
    ap (λ (k : ℕ). length (found_before b rows y k)) (let q : suc x ≡ x + 1 = omega arith in q)
    ∙ ap (length {A = Subrectangle}) (one_more b rows y x)
    ∙ length-append (found_before b rows y x) (cond (begins_subrectangle b rows y x) (subrectangle_from rows y x ∷ []) [])
    ∙ ap (λ (s : Bool). length (found_before b rows y x) + length (cond s (subrectangle_from rows y x ∷ []) [])) e
    ∙ ap (λ (n : ℕ). length (found_before b rows y x) + n) (last t)
  where
    last : (s : Bool) → length (cond s (subrectangle_from rows y x ∷ []) []) ≡ cond s 1 0
    last true = refl
    last false = refl

-- one place more
row_step : (b : ℕ) (rows : List (List ℕ)) (y x : ℕ) → suc x ≤ length (row_at rows y)
    → 2 * breaks (row_at rows y) (row_at rows (y - 1)) x + other_last b (row_at rows y) x ≤ 2 * length (found_before b rows y x) + x
    → 2 * breaks (row_at rows y) (row_at rows (y - 1)) (suc x) + other_last b (row_at rows y) (suc x) ≤ 2 * length (found_before b rows y (suc x)) + suc x
row_step b rows y x within so_far = go (is_break row above x) refl
  where
    row : List ℕ
    row = row_at rows y

    above : List ℕ
    above = row_at rows (y - 1)

    counts : (s : Bool) → length (found_before b rows y x) ≤ length (found_before b rows y x) + cond s 1 0
    counts s = omega arith

    last_is : (t : Bool) → eqb (get_or row x 0) b ≡ t → other_last b row (suc x) ≡ cond t 0 1
    last_is t e = ap (λ (s : Bool). cond {A = ℕ} s 0 1) e

    go : (t : Bool) → is_break row above x ≡ t → 2 * (breaks row above x + cond t 1 0) + other_last b row (suc x) ≤ 2 * length (found_before b rows y (suc x)) + suc x
    go false e = omega (arith, so_far, other_small b row (suc x), found_len b rows y x (begins_subrectangle b rows y x) refl, counts (begins_subrectangle b rows y x))
    go true e =
        let k = break_is row above x e in
        elim (cases_eq (get_or row x 0) b) [
          | inl same ↦
              omega (
                arith,
                so_far,
                other_is b row x k.some (λ q. k.before (q ∙ sym same)),
                last_is true (eq-eqb _ _ same),
                found_len b rows y x (begins_subrectangle b rows y x) refl,
                counts (begins_subrectangle b rows y x),
              )
          | inr other ↦ omega (arith, so_far, other_small b row (suc x), found_len b rows y x true (break_begins b rows y x (omega arith) k other))
        ]

-- in the first places of a row
pub row_breaks : (b : ℕ) (rows : List (List ℕ)) (y x : ℕ) → x ≤ length (row_at rows y)
    → 2 * breaks (row_at rows y) (row_at rows (y - 1)) x + other_last b (row_at rows y) x ≤ 2 * length (found_before b rows y x) + x
row_breaks b rows y zero within = omega arith
row_breaks b rows y (suc x) within = row_step b rows y x within (row_breaks b rows y x (omega arith))

pub breaks_small : (row above : List ℕ) (x : ℕ) → breaks row above x ≤ x
breaks_small row above zero = omega arith
breaks_small row above (suc x) = step (is_break row above x) (breaks_small row above x)
  where
    step : (t : Bool) → breaks row above x ≤ x → breaks row above x + cond t 1 0 ≤ suc x
    step true le = omega arith
    step false le = omega arith

pub enough : (limit area count here all : ℕ) → limit + area / 2 < count → 2 * count ≤ area + 2 * here → here ≤ all → limit < all
enough limit area count here all more found le = omega arith

-- one row more
pub rows_breaks : (b : ℕ) (rows : List (List ℕ)) (y w count more : ℕ) → length (row_at rows y) ≡ w → more ≡ breaks (row_at rows y) (row_at rows (y - 1)) w
    → 2 * count ≤ y * w + 2 * length (flat_map (subrectangles_in b rows) (range_with_len 0 y))
    → 2 * (count + more) ≤ (y + 1) * w + 2 * length (flat_map (subrectangles_in b rows) (range_with_len 0 (y + 1)))
rows_breaks b rows y w count more wide is so_far =
    let here = row_breaks b rows y (length (row_at rows y)) (omega arith) in
    let there = subst (λ (k : ℕ). 2 * breaks (row_at rows y) (row_at rows (y - 1)) k ≤ 2 * length (found_before b rows y (length (row_at rows y))) + k) wide (omega (arith, here)) in
    let e : (y + 1) * w ≡ y * w + w = omega arith in
    omega (arith, there, is, e, so_far, ap (length {A = Subrectangle}) (row_more (subrectangles_in b rows) y), length-append (flat_map (subrectangles_in b rows) (range_with_len 0 y)) (subrectangles_in b rows y))

-- ---- counted by their pixels

pub like_small : (k : ℕ) (row above : List ℕ) (x : ℕ) → breaks_like k row above x ≤ x
like_small k row above zero = omega arith
like_small k row above (suc x) = step (is_like k row above x) (like_small k row above x)
  where
    step : (t : Bool) → breaks_like k row above x ≤ x → breaks_like k row above x + cond t 1 0 ≤ suc x
    step true le = omega arith
    step false le = omega arith

kinds_step : (b : ℕ) (rows : List (List ℕ)) (y x : ℕ) → suc x ≤ length (row_at rows y)
    → breaks (row_at rows y) (row_at rows (y - 1)) x ≤ breaks_like (b % 251) (row_at rows y) (row_at rows (y - 1)) x + length (found_before b rows y x)
    → breaks (row_at rows y) (row_at rows (y - 1)) (suc x) ≤ breaks_like (b % 251) (row_at rows y) (row_at rows (y - 1)) (suc x) + length (found_before b rows y (suc x))
kinds_step b rows y x within so_far = go (is_break row above x) refl
  where
    row : List ℕ
    row = row_at rows y

    above : List ℕ
    above = row_at rows (y - 1)

    like : Bool
    like = eqb (get_or row x 0 % 251) (b % 251)

    counts : (s : Bool) → length (found_before b rows y x) ≤ length (found_before b rows y x) + cond s 1 0
    counts s = omega arith

    go : (t : Bool) → is_break row above x ≡ t
        → breaks row above x + cond t 1 0 ≤ breaks_like (b % 251) row above x + cond (t && like) 1 0 + length (found_before b rows y (suc x))
    go false e = omega (arith, so_far, found_len b rows y x (begins_subrectangle b rows y x) refl, counts (begins_subrectangle b rows y x))
    go true e =
        elim (cases_eq (get_or row x 0) b) [
          | inl same ↦
              omega (
                arith,
                so_far,
                ap (λ (t : Bool). cond {A = ℕ} t 1 0) (eq-eqb (get_or row x 0 % 251) (b % 251) (ap (λ (n : ℕ). n % 251) same)),
                found_len b rows y x (begins_subrectangle b rows y x) refl,
                counts (begins_subrectangle b rows y x),
              )
          | inr other ↦ omega (arith, so_far, found_len b rows y x true (break_begins b rows y x (omega arith) (break_is row above x e) other))
        ]

row_kinds : (b : ℕ) (rows : List (List ℕ)) (y x : ℕ) → x ≤ length (row_at rows y)
    → breaks (row_at rows y) (row_at rows (y - 1)) x ≤ breaks_like (b % 251) (row_at rows y) (row_at rows (y - 1)) x + length (found_before b rows y x)
row_kinds b rows y zero within = omega arith
row_kinds b rows y (suc x) within = kinds_step b rows y x within (row_kinds b rows y x (omega arith))

pub rows_kinds : (b : ℕ) (rows : List (List ℕ)) (y count like more alike : ℕ) → more ≡ breaks (row_at rows y) (row_at rows (y - 1)) (length (row_at rows y))
    → alike ≡ breaks_like (b % 251) (row_at rows y) (row_at rows (y - 1)) (length (row_at rows y))
    → count ≤ like + length (flat_map (subrectangles_in b rows) (range_with_len 0 y))
    → count + more ≤ like + alike + length (flat_map (subrectangles_in b rows) (range_with_len 0 (y + 1)))
rows_kinds b rows y count like more alike is are so_far =
    omega (
      arith,
      is,
      are,
      so_far,
      row_kinds b rows y (length (row_at rows y)) (omega arith),
      ap (length {A = Subrectangle}) (row_more (subrectangles_in b rows) y),
      length-append (flat_map (subrectangles_in b rows) (range_with_len 0 y)) (subrectangles_in b rows y),
    )
