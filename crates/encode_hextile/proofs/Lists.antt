-- How long the bytes of subrectangles are.
use Rattle.std.proofs.Common.{◌≡◌, ℕ, zero, suc, inl, inr, ◌+◌, ◌-◌, ◌*◌, ◌/◌, ◌<◌, ◌≤◌, ◌++◌, ◌&&◌, Bool, true, false, not, cond, eqb, List, [], ◌∷◌, length, take, drop, get_or, slice_index, ◌⊎◌, subst, refl, sym, ap, ◌∙◌, arith, length-append}
use Rattle.std.specs.List.{flat_map, range_with_len}
use Rattle.std.proofs.lemmas.Grind.{flat_map-append}
use Rattle.std.proofs.Math.Nat.{suc-mul, zero-mul, mul-le-mul, mul-le-mul_right}
use Rattle.std.proofs.Math.Seq.{take-length, take-add}
use Rattle.std.proofs.lemmas.Bool.{eqb-true, eqb-false, cases_eq, cases_lt}
use Rattle.std.proofs.lemmas.Bool.Decides.{eqb_tells}
use Rattle.std.proofs.lemmas.List.{length-take-le, length-drop, get_or-drop}
use Rattle.std.proofs.lemmas.List.Sums.{count_by_more_yes, count_by_more_no, sum_by-append}
use Rattle.pixel_translate.specs.declared.PixelFormat.{PixelFormat}
use Rattle.pixel_translate.specs.declared.BitsPerPixel.{BitsPerPixel}
use Rattle.pixel_translate.specs.declared.BitsPerPixel.TheVariants.{Eight, Sixteen, ThirtyTwo}
use Rattle.pixel_translate.specs.Pixel.{bit_count, bytes_per_pixel, pixel_bytes, bits_of}
use Rattle.subrectangles.specs.declared.Subrectangle.{Subrectangle}
use Rattle.subrectangles.specs.Subrectangles.{FindsTheBackground, rows_of, row_at, times, background_of, run_at, is_above, stretch, subrectangles_in, subrectangles, begins_subrectangle, subrectangle_from}
use Rattle.pixel_translate.specs.Bounds.{pixel_length}
use Rattle.subrectangles.specs.Scans.{found_before, one_more, some_run, stretch_is, run_same, row_is, row_more, fewer_rows, rows_count}
use Rattle.subrectangles.specs.Runs.{Front, prefix_is}
use Rattle.subrectangles.specs.Paint.{and_true}
use Rattle.encode_hextile.specs.Hextile.{subrectangle_bytes}

abbrev pub unit : PixelFormat → Bool → ℕ
unit f coloured = cond coloured (bytes_per_pixel f + 2) 2

unit_is : (f : PixelFormat) (coloured : Bool) (s : Subrectangle) → length (subrectangle_bytes f coloured s) ≡ unit f coloured
unit_is f true s = length-append (pixel_bytes f s.pixel) _ ∙ ap (λ (n : ℕ). n + 2) (pixel_length f s.pixel)
unit_is f false s = refl

pub list_length : (f : PixelFormat) (coloured : Bool) (subs : List Subrectangle) → length (flat_map (subrectangle_bytes f coloured) subs) ≡ length subs * unit f coloured
list_length f coloured [] = sym (zero-mul (unit f coloured))
list_length f coloured (s ∷ subs) =
    let more = list_length f coloured subs in
    let e : suc (length subs) * unit f coloured ≡ length subs * unit f coloured + unit f coloured = suc-mul (length subs) (unit f coloured) in
    length-append (subrectangle_bytes f coloured s) (flat_map (subrectangle_bytes f coloured) subs) ∙ omega (arith, more, unit_is f coloured s, e)

-- those of some rows are no longer than those of all
pub fewer_bytes : (f : PixelFormat) (coloured : Bool) (g : ℕ → List Subrectangle) (y m : ℕ)
    → length (flat_map (subrectangle_bytes f coloured) (flat_map g (range_with_len 0 y))) ≤ length (flat_map (subrectangle_bytes f coloured) (flat_map g (range_with_len 0 (y + m))))
fewer_bytes f coloured g y m =
    let le = mul-le-mul_right (unit f coloured) (fewer_rows g y m) in
    omega (arith, le, list_length f coloured (flat_map g (range_with_len 0 y)), list_length f coloured (flat_map g (range_with_len 0 (y + m))))

pub more_bytes : (f : PixelFormat) (coloured : Bool) (g : ℕ → List Subrectangle) (y : ℕ) (old now : List ℕ) → old ≡ flat_map (subrectangle_bytes f coloured) (flat_map g (range_with_len 0 y))
    → now ≡ old ++ flat_map (subrectangle_bytes f coloured) (g y) → now ≡ flat_map (subrectangle_bytes f coloured) (flat_map g (range_with_len 0 (y + 1)))
more_bytes f coloured g y old now e h =
    h ∙ ap (λ (t : List ℕ). t ++ flat_map (subrectangle_bytes f coloured) (g y)) e ∙ sym (flat_map-append (subrectangle_bytes f coloured) (flat_map g (range_with_len 0 y)) (g y))
    ∙ ap (flat_map (subrectangle_bytes f coloured)) (sym (row_more g y))

-- a tile's pixels have at most 1024 bytes
pub raw_most : (w h n p : ℕ) → n ≡ w * h → w ≤ 16 → h ≤ 16 → p ≤ 4 → n * p ≤ 1024
raw_most w h n p e narrow low few =
    let places : w * h ≤ 16 * 16 = mul-le-mul narrow low in
    let all : n * p ≤ 256 * 4 = mul-le-mul (let a : n ≤ 256 = omega arith in a) few in
    all

is_not : (b : Bool) → not b ≡ true → b ≡ false
is_not true e = absurd cc
is_not false e = refl

-- ---- there is at most one subrectangle for each place of another pixel

one_or_none : (b : ℕ) (rows : List (List ℕ)) (y x : ℕ) (t : Bool) → begins_subrectangle b rows y x ≡ t → x < length (row_at rows y)
    → length (cond t (subrectangle_from rows y x ∷ []) []) + times b (take (x + 1) (row_at rows y)) ≤ times b (take x (row_at rows y)) + 1
one_or_none b rows y x true e lt =
    let parts = and_true _ _ e in
    let two = and_true _ _ parts.0 in
    omega (arith, count_by_more_no (λ p. eqb p b) (row_at rows y) x 0 lt (is_not _ two.1))
one_or_none b rows y x false e lt =
    elim (eqb_tells (get_or (row_at rows y) x 0) b) [
      | inl a ↦ omega (arith, count_by_more_yes (λ p. eqb p b) (row_at rows y) x 0 lt a.0)
      | inr a ↦ omega (arith, count_by_more_no (λ p. eqb p b) (row_at rows y) x 0 lt a.0)
    ]

few_in_row : (b : ℕ) (rows : List (List ℕ)) (y x : ℕ) → x ≤ length (row_at rows y) → length (found_before b rows y x) + times b (take x (row_at rows y)) ≤ x
few_in_row b rows y zero le = omega arith
few_in_row b rows y (suc x) le =
    let before = few_in_row b rows y x (omega arith) in
    let step = one_or_none b rows y x (begins_subrectangle b rows y x) refl (omega (arith, le)) in
    let more = ap (length {A = Subrectangle}) (one_more b rows y x) ∙ length-append (found_before b rows y x) (cond (begins_subrectangle b rows y x) (subrectangle_from rows y x ∷ []) []) in
    let e : suc x ≡ x + 1 = omega arith in
    omega (arith, before, step, more, ap (λ (k : ℕ). length (found_before b rows y k)) e, ap (λ (k : ℕ). times b (take k (row_at rows y))) e)

few_in_rows : (b w h : ℕ) (ps : List ℕ) → length ps ≡ w * h → (y : ℕ) → y ≤ h
    → length (flat_map (subrectangles_in b (rows_of w h ps)) (range_with_len 0 y)) + times b (take (y * w) ps) ≤ y * w
few_in_rows b w h ps whole zero le = omega (arith, ap (λ (k : ℕ). times b (take k ps)) (zero-mul w))
few_in_rows b w h ps whole (suc y) le =
    let before = few_in_rows b w h ps whole y (omega arith) in
    omega (arith, before, now, more, ap (λ (k : ℕ). length (flat_map (subrectangles_in b rows) (range_with_len 0 k))) e, split, suc-mul y w, wide)
  where
    rows : List (List ℕ)
    rows = rows_of w h ps

    e : suc y ≡ y + 1
    e = omega arith

    row : row_at rows y ≡ take w (drop (y * w) ps)
    row = row_is w h ps y (omega arith)

    fits : y * w + w ≤ length ps
    fits =
        let le : suc y * w ≤ h * w = mul-le-mul_right w le in
        omega (arith, le, suc-mul y w, whole)

    wide : length (row_at rows y) ≡ w
    wide = ap (length {A = ℕ}) row ∙ length-take-le w (drop (y * w) ps) (omega (arith, length-drop (y * w) ps, fits))

    now : length (subrectangles_in b rows y) + times b (row_at rows y) ≤ length (row_at rows y)
    now = omega (arith, few_in_row b rows y (length (row_at rows y)) (omega arith), ap (times b) (take-length (row_at rows y)))

    more : length (flat_map (subrectangles_in b rows) (range_with_len 0 (y + 1))) ≡ length (flat_map (subrectangles_in b rows) (range_with_len 0 y)) + length (subrectangles_in b rows y)
    more = ap (length {A = Subrectangle}) (row_more (subrectangles_in b rows) y) ∙ length-append (flat_map (subrectangles_in b rows) (range_with_len 0 y)) (subrectangles_in b rows y)

    split : times b (take (suc y * w) ps) ≡ times b (take (y * w) ps) + times b (row_at rows y)
    split =
        ap (λ (k : ℕ). times b (take k ps)) (suc-mul y w)
        ∙ ap (times b) (take-add (y * w) w ps) ∙ sum_by-append (λ (q : ℕ). cond (eqb q b) 1 0) (take (y * w) ps) (take w (drop (y * w) ps))
        ∙ ap (λ (t : List ℕ). times b (take (y * w) ps) + times b t) (sym row)

pub few_subrectangles : (b w h : ℕ) (ps : List ℕ) → length ps ≡ w * h → length (subrectangles b (rows_of w h ps)) + times b ps ≤ length ps
few_subrectangles b w h ps whole =
    let all = few_in_rows b w h ps whole h (omega arith) in
    let turned : h * w ≡ length ps = omega (arith, whole) in
    omega (arith, all, turned, ap (λ (k : ℕ). times b (take k ps)) turned, ap (times b) (take-length ps), ap (λ (k : ℕ). length (flat_map (subrectangles_in b (rows_of w h ps)) (range_with_len 0 k))) (rows_count w h ps))

-- their number has a byte
pub count_fits : FindsTheBackground → (w h : ℕ) (ps : List ℕ) (b : ℕ) → length ps ≡ w * h → 0 < length ps → w ≤ 16 → h ≤ 16 → b ≡ background_of ps → length (subrectangles b (rows_of w h ps)) < 256
count_fits finds w h ps b whole some narrow low e =
    let places : w * h ≤ 16 * 16 = mul-le-mul narrow low in
    let stands : 0 < times (background_of ps) ps = (finds ps some).stands_there in
    omega (arith, places, stands, ap (λ (t : ℕ). times t ps) e, few_subrectangles b w h ps whole)

pub unit_some : (f : PixelFormat) (coloured : Bool) → 0 < unit f coloured
unit_some f true = omega arith
unit_some f false = omega arith

few_of : (b : BitsPerPixel) → bit_count b / 8 ≤ 4
few_of Eight = omega arith
few_of Sixteen = omega arith
few_of ThirtyTwo = omega arith

pub few_bytes_a_pixel : (f : PixelFormat) → bytes_per_pixel f ≤ 4
few_bytes_a_pixel f = few_of (bits_of f)

-- ---- places at which subrectangles begin

not_false : (t : Bool) → t ≡ false → not t ≡ true
not_false t e = rw e refl

both : (s t : Bool) → s ≡ true → t ≡ true → (s && t) ≡ true
both s t e f = rw (e, f) refl

unless_true : (t : Bool) → (t ≡ true → ⊥) → t ≡ false
unless_true true h = absurd (h refl)
unless_true false h = refl

fewer_found : (b : ℕ) (rows : List (List ℕ)) (y x : ℕ) → length (found_before b rows y x) ≤ length (found_before b rows y (x + 1))
fewer_found b rows y x =
    omega (arith, ap (length {A = Subrectangle}) (one_more b rows y x), length-append (found_before b rows y x) (cond (begins_subrectangle b rows y x) (subrectangle_from rows y x ∷ []) []))

fewer_times : (b : ℕ) (row : List ℕ) (x : ℕ) → x < length row → times b (take x row) ≤ times b (take (x + 1) row)
fewer_times b row x lt = elim (eqb_tells (get_or row x 0) b) [
  | inl a ↦ omega (arith, count_by_more_yes (λ p. eqb p b) row x 0 lt a.0)
  | inr a ↦ omega (arith, count_by_more_no (λ p. eqb p b) row x 0 lt a.0)
]

pub starts_same : (b : ℕ) (rows : List (List ℕ)) (y x : ℕ) (row : List ℕ) → row_at rows y ≡ row → x < length row
    → length (found_before b rows y x) + times b (take x row) ≤ length (found_before b rows y (x + 1)) + times b (take (x + 1) row)
starts_same b rows y x row e lt = omega (arith, fewer_found b rows y x, fewer_times b row x lt)

-- the row above has no run that begins with another pixel
not_above : (rows : List (List ℕ)) (y x : ℕ) → (get_or (row_at rows (y - 1)) x 0 ≡ get_or (row_at rows y) x 0 → ⊥) → is_above rows y (run_at (row_at rows y) x) ≡ false
not_above rows y x ne = unless_true _ (λ q.
    let has = (and_true _ _ q).1 in
    let two = (and_true _ _ has).0 in
    ne (eqb-true _ _ (and_true _ _ two).1))

pub starts_more : (b : ℕ) (rows : List (List ℕ)) (y x : ℕ) (row : List ℕ) → row_at rows y ≡ row → x < length row → (get_or row (x - 1) 0 ≡ get_or row x 0 → ⊥) → (get_or (row_at rows (y - 1)) x 0 ≡ get_or row x 0 → ⊥)
    → length (found_before b rows y x) + times b (take x row) + 1 ≤ length (found_before b rows y (x + 1)) + times b (take (x + 1) row)
starts_more b rows y x row e lt left top = elim (eqb_tells (get_or row x 0) b) [
  | inl a ↦ omega (arith, fewer_found b rows y x, count_by_more_yes (λ p. eqb p b) row x 0 lt a.0)
  | inr a ↦ omega (arith, fewer_times b row x lt, here a.0)
]
  where
    here : eqb (get_or row x 0) b ≡ false → length (found_before b rows y x) + 1 ≤ length (found_before b rows y (x + 1))
    here other =
        let begins : begins_subrectangle b rows y x ≡ true =
        both _ _ (both _ _ (some_run (row_at rows y) x (omega (arith, lt, ap (length {A = ℕ}) e)) (λ q. left (ap (λ (r : List ℕ). get_or r (x - 1) 0) (sym e) ∙ q ∙ ap (λ (r : List ℕ). get_or r x 0) e)))
        (not_false _ (ap (λ (r : List ℕ). eqb (get_or r x 0) b) e ∙ other))) (not_false _ (not_above rows y x (λ q. top (q ∙ ap (λ (r : List ℕ). get_or r x 0) e)))) in
        omega (
          arith,
          ap (length {A = Subrectangle}) (one_more b rows y x),
          length-append (found_before b rows y x) (cond (begins_subrectangle b rows y x) (subrectangle_from rows y x ∷ []) []),
          ap (λ (t : Bool). length (cond {A = List Subrectangle} t (subrectangle_from rows y x ∷ []) [])) begins,
        )

-- one row more
pub starts_row : (b w h : ℕ) (ps : List ℕ) (y before here : ℕ) → length ps ≡ w * h → y < h
    → before ≤ length (flat_map (subrectangles_in b (rows_of w h ps)) (range_with_len 0 y)) + times b (take (y * w) ps)
    → here ≤ length (subrectangles_in b (rows_of w h ps) y) + times b (row_at (rows_of w h ps) y)
    → before + here ≤ length (flat_map (subrectangles_in b (rows_of w h ps)) (range_with_len 0 (y + 1))) + times b (take ((y + 1) * w) ps)
starts_row b w h ps y before here whole lt le more = omega (arith, le, more, found, split)
  where
    rows : List (List ℕ)
    rows = rows_of w h ps

    found : length (flat_map (subrectangles_in b rows) (range_with_len 0 (y + 1))) ≡ length (flat_map (subrectangles_in b rows) (range_with_len 0 y)) + length (subrectangles_in b rows y)
    found = ap (length {A = Subrectangle}) (row_more (subrectangles_in b rows) y) ∙ length-append (flat_map (subrectangles_in b rows) (range_with_len 0 y)) (subrectangles_in b rows y)

    split : times b (take ((y + 1) * w) ps) ≡ times b (take (y * w) ps) + times b (row_at rows y)
    split =
        ap (λ (k : ℕ). times b (take k ps)) (ap (λ (n : ℕ). n * w) (let q : y + 1 ≡ suc y = omega arith in q) ∙ suc-mul y w)
        ∙ ap (times b) (take-add (y * w) w ps) ∙ sum_by-append (λ (q : ℕ). cond (eqb q b) 1 0) (take (y * w) ps) (take w (drop (y * w) ps))
        ∙ ap (λ (t : List ℕ). times b (take (y * w) ps) + times b t) (sym (row_is w h ps y lt))

pub starts_all : (b w h : ℕ) (ps : List ℕ) (y starts : ℕ) → length ps ≡ w * h → y ≡ h
    → starts ≤ length (flat_map (subrectangles_in b (rows_of w h ps)) (range_with_len 0 y)) + times b (take (y * w) ps) → starts ≤ length (subrectangles b (rows_of w h ps)) + times b ps
starts_all b w h ps y starts whole e le =
    let turned : y * w ≡ length ps = ap (λ (n : ℕ). n * w) e ∙ omega (arith, whole) in
    omega (
      arith,
      le,
      ap (λ (k : ℕ). times b (take k ps)) turned,
      ap (times b) (take-length ps),
      ap (λ (k : ℕ). length (flat_map (subrectangles_in b (rows_of w h ps)) (range_with_len 0 k))) (e ∙ sym (rows_count w h ps)),
    )

-- so many are surely as long as the pixels
pub noise_long : (f : PixelFormat) (subs : List Subrectangle) (raw starts most times_b others unit_len : ℕ) → unit_len ≡ bytes_per_pixel f + 2 → others ≡ starts - most → starts ≤ length subs + times_b → times_b ≤ most → raw ≤ others * unit_len
    → raw ≤ length (flat_map (subrectangle_bytes f true) subs)
noise_long f subs raw starts most times_b others unit_len e o le bound long =
    let few : others * unit_len ≤ length subs * unit_len = mul-le-mul_right unit_len (let q : others ≤ length subs = omega (arith, o, le, bound) in q) in
    omega (arith, few, long, list_length f true subs, ap (λ (u : ℕ). length subs * u) e)

-- ---- stretches, from the right

-- a stretch ends with the row, or before another pixel
record Ends (row : List ℕ) (x n : ℕ) : Type 0 where
  within : x + n ≤ length row
  stops : x + n < length row → get_or row (x + n) 0 ≡ get_or row x 0 → ⊥

stretch_ends : (row : List ℕ) (x n : ℕ) → x < length row → n ≡ stretch row x → Ends row x n
stretch_ends row x n inside e = record {
  within = omega (arith, front.within, length-drop x row, inside);
  stops = λ lt q. eqb-false _ _ (front.stops (omega (arith, lt, length-drop x row))) (get_or-drop x row n 0 ∙ q);
}
  where
    test : ℕ → Bool
    test p = eqb p (slice_index row x)

    front : Front test 0 (drop x row) n
    front = subst (Front test 0 (drop x row)) (sym e) (prefix_is test 0 (drop x row))

last_stretch : (row : List ℕ) (x : ℕ) → x + 1 ≡ length row → 1 ≡ stretch row x
last_stretch row x e = stretch_is row x 1 (omega (arith, e)) (λ k le lt. ap (λ (i : ℕ). get_or row i 0) (let q : k ≡ x = omega arith in q)) (λ lt q. absurd (omega (arith, lt, e)))

other_stretch : (row : List ℕ) (x : ℕ) → x + 1 < length row → (get_or row x 0 ≡ get_or row (x + 1) 0 → ⊥) → 1 ≡ stretch row x
other_stretch row x lt ne = stretch_is row x 1 (omega arith) (λ k le below. ap (λ (i : ℕ). get_or row i 0) (let q : k ≡ x = omega arith in q)) (λ less q. ne (sym q))

same_stretch : (row : List ℕ) (x n : ℕ) → x + 1 < length row → get_or row x 0 ≡ get_or row (x + 1) 0 → n ≡ stretch row (x + 1) → n + 1 ≡ stretch row x
same_stretch row x n lt e h =
    stretch_is row x (n + 1) (omega (arith, ends.within)) (λ k le below. elim (cases_eq k x) [
      | inl q ↦ ap (λ (i : ℕ). get_or row i 0) q
      | inr ne ↦ run_same row (x + 1) n lt h k (omega arith) (omega (arith, below)) ∙ sym e
    ])
    (λ less q. ends.stops (omega (arith, less)) (ap (λ (i : ℕ). get_or row i 0) (let z : x + 1 + n ≡ x + (n + 1) = omega arith in z) ∙ q ∙ e))
  where
    ends : Ends row (x + 1) n
    ends = stretch_ends row (x + 1) n lt h

-- one place more, where the one after it is known
pub one_stretch : (row : List ℕ) (k after width now : ℕ) → k < length row → (0 < k → (after ≡ get_or row (length row - k) 0) × (width ≡ stretch row (length row - k))) → width ≤ k
    → ((get_or row (length row - 1 - k) 0 ≡ after) × (now ≡ width + 1)) ⊎ ((get_or row (length row - 1 - k) 0 ≡ after → ⊥) × (now ≡ 1)) → now ≡ stretch row (length row - 1 - k)
one_stretch row k after width now lt first few cases = elim (cases_lt 0 k) [
  | inl some ↦
      let f = first some in
      let next : length row - k ≡ x + 1 = omega (arith, lt, some) in
      let there : after ≡ get_or row (x + 1) 0 = f.0 ∙ ap (λ (i : ℕ). get_or row i 0) next in
      elim cases [
        | inl c ↦ c.1 ∙ same_stretch row x width (omega (arith, lt, some)) (c.0 ∙ there) (f.1 ∙ ap (stretch row) next)
        | inr c ↦ c.1 ∙ other_stretch row x (omega (arith, lt, some)) (λ q. c.0 (q ∙ sym there))
      ]
  | inr le ↦
      let one : now ≡ 1 = elim cases [ inl c ↦ omega (arith, c.1, few, le) | inr c ↦ c.1 ] in
      one ∙ last_stretch row x (omega (arith, lt, le))
]
  where
    x : ℕ
    x = length row - 1 - k

-- a stretch has a pixel, and lies within its row
pub stretch_some : (row : List ℕ) (x n : ℕ) → x < length row → n ≡ stretch row x → 0 < n
stretch_some row x n inside e = elim (cases_lt 0 n) [
  | inl lt ↦ lt
  | inr le ↦ absurd (ends.stops (omega (arith, le, inside)) (ap (λ (i : ℕ). get_or row i 0) (let q : x + n ≡ x = omega (arith, le) in q)))
]
  where
    ends : Ends row x n
    ends = stretch_ends row x n inside e

pub stretch_within : (row : List ℕ) (x n : ℕ) → x < length row → n ≡ stretch row x → x + n ≤ length row
stretch_within row x n inside e = (stretch_ends row x n inside e).within
