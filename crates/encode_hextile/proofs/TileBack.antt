-- A tile in Hextile is read back.
use Rattle.std.proofs.Common.{◌≡◌, ℕ, zero, suc, ◌+◌, ◌-◌, ◌*◌, ◌/◌, ◌%◌, ◌^◌, ◌<◌, ◌≤◌, ◌⊎◌, inl, inr, Bool, true, false, not, cond, eqb, List, [], ◌∷◌, ◌++◌, length, drop, get_or, Contains, Option, Some, None, refl, sym, ap, subst, ◌∙◌, arith, append_assoc}
use Rattle.std.specs.List.{flat_map, list_all}
use Rattle.std.specs.Int.{w8}
use Rattle.std.proofs.Math.Nat.{suc-mul, mul-le-mul_right}
use Rattle.std.proofs.lemmas.Nat.{div-mul-add, mod-mul-add}
use Rattle.std.proofs.lemmas.Bool.{cases_eq, cases_lt, ltb-true, leb-true, eqb-true}
use Rattle.std.proofs.lemmas.Bool.Decides.{eqb_tells}
use Rattle.std.proofs.lemmas.List.{get_or-take, get_or-drop, length-take-le, length-drop}
use Rattle.pixel_translate.specs.declared.PixelFormat.{PixelFormat}
use Rattle.pixel_translate.specs.Pixel.{bit_count, bytes_per_pixel, pixel_bytes, bits_of as format_bits}
use Rattle.encode_raw.specs.Reading.{◌>>=◌, number_at, pixels_at, raw_at, row_by_row, Patch}
use Rattle.encode_raw.specs.Back.{pixel_back}
use Rattle.subrectangles.specs.declared.Subrectangle.{Subrectangle}
use Rattle.subrectangles.specs.Reading.{painted}
use Rattle.subrectangles.specs.Subrectangles.{FindsTheBackground, ListsTheSubrectangles, IsSubrectangle, HasRun, run_of, rows_of, row_at, pixel_in, background_of, subrectangles}
use Rattle.subrectangles.specs.Listed.{head_of, tail_of}
use Rattle.subrectangles.specs.Scans.{row_is, rows_count}
use Rattle.subrectangles.specs.Paint.{paint, paint_is, covers, Covering, covered, and_true}
use Rattle.encode_hextile.specs.declared.Carried.{Carried}
use Rattle.encode_hextile.specs.declared.TilePixels.{TilePixels}
use Rattle.encode_hextile.specs.declared.TilePixels.TheVariants.{Alone, OneOther, Several}
use Rattle.encode_hextile.specs.Hextile.{Coded, nothing, is_carried, bit_unless, bytes_unless, kind_of, place_bytes, subrectangle_bytes, others_of, bits_of, said_bytes, list_bytes, next_of, coded, raw_tile, tile}
use Rattle.encode_hextile.specs.Reading.{has_bit, specified_at, subrectangle_at, subrectangles_at, TileRead, raw_tile_at, coded_tile_at, tile_at}
use Rattle.encode_hextile.proofs.Palettes.{StandsAt, stands_at, times_at, apart2, beside, beside_length, beside_times, stands_beside}
use Rattle.encode_hextile.proofs.Coding.{tile_short, tile_long}
use Rattle.encode_hextile.proofs.Cuts.{concat_rows}

-- each pixel has room in the format
abbrev pub Below : PixelFormat → List ℕ → Type 0
Below f ps = (k : ℕ) → k < length ps → get_or ps k 0 < 2 ^ bit_count (format_bits f)

regroup : (a b c d : List ℕ) → ((a ++ b) ++ c) ++ d ≡ a ++ (b ++ (c ++ d))
regroup a b c d = simp append_assoc

byte_back : (n : ℕ) (more : List ℕ) → number_at w8 (n ∷ more) ≡ Some (n, more)
byte_back n more = refl

-- ---- pixels that are said or carried

carried_is : (before : Option ℕ) (p : ℕ) → is_carried before p ≡ true → before ≡ Some p
carried_is None p e = absurd cc
carried_is (Some q) p e = ap (λ (t : ℕ). Some t) (eqb-true q p e)

said_back : (f : PixelFormat) (before : Option ℕ) (p : ℕ) (more : List ℕ) (t : Bool) → is_carried before p ≡ t → p < 2 ^ bit_count (format_bits f)
    → specified_at f (not t) before (bytes_unless t (pixel_bytes f p) ++ more) ≡ Some (Some p, more)
said_back f before p more true e below = ap (λ (o : Option ℕ). Some (o, more)) (carried_is before p e)
said_back f before p more false e below = ap (λ (o : Option (ℕ × List ℕ)). o >>= λ q. Some (Some q.0, q.1)) (pixel_back f p more below)

-- ---- subrectangles

-- a subrectangle whose numbers have room on the wire
pub record Fitting (f : PixelFormat) (s : Subrectangle) : Type 0 where
  pub x : s.x < 16
  pub y : s.y < 16
  pub wide : 0 < s.w
  pub w : s.w ≤ 16
  pub high : 0 < s.h
  pub h : s.h ≤ 16
  pub pixel : s.pixel < 2 ^ bit_count (format_bits f)

abbrev sub : ℕ → ℕ → ℕ → ℕ → ℕ → List ℕ → Option (Subrectangle × List ℕ)
sub x y w h p more = Some (record { x = x; y = y; w = w; h = h; pixel = p }, more)

places_back : (f : PixelFormat) (s : Subrectangle) (more : List ℕ) → Fitting f s
    → sub ((s.x * 16 + s.y) / 16) ((s.x * 16 + s.y) % 16) (((s.w - 1) * 16 + (s.h - 1)) / 16 + 1) (((s.w - 1) * 16 + (s.h - 1)) % 16 + 1) s.pixel more ≡ Some (s, more)
places_back f s more fit =
    ap (λ (n : ℕ). sub n ((s.x * 16 + s.y) % 16) (((s.w - 1) * 16 + (s.h - 1)) / 16 + 1) (((s.w - 1) * 16 + (s.h - 1)) % 16 + 1) s.pixel more) (div-mul-add s.x 16 s.y fit.y)
    ∙ ap (λ (n : ℕ). sub s.x n (((s.w - 1) * 16 + (s.h - 1)) / 16 + 1) (((s.w - 1) * 16 + (s.h - 1)) % 16 + 1) s.pixel more) (mod-mul-add s.x 16 s.y fit.y)
    ∙ ap (λ (n : ℕ). sub s.x s.y n (((s.w - 1) * 16 + (s.h - 1)) % 16 + 1) s.pixel more)
    (let e : ((s.w - 1) * 16 + (s.h - 1)) / 16 + 1 ≡ s.w = omega (arith, div-mul-add (s.w - 1) 16 (s.h - 1) (omega (arith, fit.h, fit.high)), fit.wide) in e)
    ∙ ap (λ (n : ℕ). sub s.x s.y s.w n s.pixel more) (let e : ((s.w - 1) * 16 + (s.h - 1)) % 16 + 1 ≡ s.h = omega (arith, mod-mul-add (s.w - 1) 16 (s.h - 1) (omega (arith, fit.h, fit.high)), fit.high) in e)

abbrev owned : ℕ × List ℕ → Option (Option ℕ × List ℕ)
owned p = Some (Some p.0, p.1)

abbrev place_at : Option ℕ × List ℕ → Option (Subrectangle × List ℕ)
place_at own = do
  pixel ← own.0
  place ← number_at w8 own.1
  size ← number_at w8 place.1
  Some (record { x = place.0 / 16; y = place.0 % 16; w = size.0 / 16 + 1; h = size.0 % 16 + 1; pixel = pixel }, size.1)

sub_coloured : (f : PixelFormat) (before : Option ℕ) (s : Subrectangle) (more : List ℕ) → Fitting f s → subrectangle_at f true before (subrectangle_bytes f true s ++ more) ≡ Some (s, more)
sub_coloured f before s more fit =
    ap (subrectangle_at f true before) (append_assoc (pixel_bytes f s.pixel) (place_bytes s) more)
    ∙ ap (λ (o : Option (ℕ × List ℕ)). (o >>= owned) >>= place_at) (pixel_back f s.pixel (place_bytes s ++ more) fit.pixel)
    ∙ places_back f s more fit

sub_plain : (f : PixelFormat) (s : Subrectangle) (more : List ℕ) → Fitting f s → subrectangle_at f false (Some s.pixel) (subrectangle_bytes f false s ++ more) ≡ Some (s, more)
sub_plain f s more fit = places_back f s more fit

subs_coloured : (f : PixelFormat) (before : Option ℕ) (subs : List Subrectangle) (patch : Patch) (more : List ℕ) → ((s : Subrectangle) → Contains subs s → Fitting f s)
    → subrectangles_at f true before (length subs) patch (flat_map (subrectangle_bytes f true) subs ++ more) ≡ Some (paint subs patch, more)
unfolding subrectangles_at paint
subs_coloured f before [] patch more each = refl
subs_coloured f before (s ∷ subs) patch more each =
    let later = subs_coloured f before subs (painted s patch) more (λ t c. each t (tail_of s subs t c)) in
    ap (λ (t : List ℕ). subrectangles_at f true before (suc (length subs)) patch t) (append_assoc (subrectangle_bytes f true s) (flat_map (subrectangle_bytes f true) subs) more)
    ∙ ap (λ (o : Option (Subrectangle × List ℕ)). o >>= λ p. subrectangles_at f true before (length subs) (painted p.0 patch) p.1)
    (sub_coloured f before s (flat_map (subrectangle_bytes f true) subs ++ more) (each s (head_of s subs)))
    ∙ later

subs_plain : (f : PixelFormat) (o : ℕ) (subs : List Subrectangle) (patch : Patch) (more : List ℕ) → ((s : Subrectangle) → Contains subs s → Fitting f s) → ((s : Subrectangle) → Contains subs s → s.pixel ≡ o)
    → subrectangles_at f false (Some o) (length subs) patch (flat_map (subrectangle_bytes f false) subs ++ more) ≡ Some (paint subs patch, more)
unfolding subrectangles_at paint
subs_plain f o [] patch more each one = refl
subs_plain f o (s ∷ subs) patch more each one =
    let later = subs_plain f o subs (painted s patch) more (λ t c. each t (tail_of s subs t c)) (λ t c. one t (tail_of s subs t c)) in
    ap (λ (q : ℕ). subrectangle_at f false (Some q) (subrectangle_bytes f false s ++ (flat_map (subrectangle_bytes f false) subs ++ more)) >>= λ p. subrectangles_at f false (Some o) (length subs) (painted p.0 patch) p.1)
    (sym (one s (head_of s subs)))
    ∙ ap (λ (r : Option (Subrectangle × List ℕ)). r >>= λ p. subrectangles_at f false (Some o) (length subs) (painted p.0 patch) p.1)
    (sub_plain f s (flat_map (subrectangle_bytes f false) subs ++ more) (each s (head_of s subs)))
    ∙ later

-- ---- the subrectangles of a tile

row_within : (w h j : ℕ) → j < h → j * w + w ≤ w * h
row_within w h j lt =
    let rows : suc j * w ≤ h * w = mul-le-mul_right w lt in
    omega (arith, rows, suc-mul j w)

wide_row : (w h : ℕ) (ps : List ℕ) (j : ℕ) → length ps ≡ w * h → j < h → length (row_at (rows_of w h ps) j) ≡ w
wide_row w h ps j whole lt =
    ap (length {A = ℕ}) (row_is w h ps j lt) ∙ length-take-le w (drop (j * w) ps) (omega (arith, length-drop (j * w) ps, row_within w h j lt, whole))

pub place_is : (w h : ℕ) (ps : List ℕ) (i j : ℕ) → i < w → j < h → pixel_in (rows_of w h ps) i j ≡ get_or ps (j * w + i) 0
place_is w h ps i j left top =
    ap (λ (row : List ℕ). get_or row i 0) (row_is w h ps j top) ∙ get_or-take w (drop (j * w) ps) i 0 left ∙ get_or-drop (j * w) ps i 0

fitting : (f : PixelFormat) (w h : ℕ) (ps : List ℕ) (b : ℕ) (s : Subrectangle) → w ≤ 16 → h ≤ 16 → length ps ≡ w * h → Below f ps
    → IsSubrectangle (rows_of w h ps) b s → Fitting f s
fitting f w h ps b s narrow low whole below is = record {
  x = omega (arith, has.some, has.inside, width, narrow);
  y = omega (arith, top, low);
  wide = has.some;
  w = omega (arith, has.inside, width, narrow);
  high = is.high;
  h = omega (arith, is.high, last.row, count, low);
  pixel = subst (λ (p : ℕ). p < 2 ^ bit_count (format_bits f)) (sym (place_is w h ps s.x s.y left top) ∙ has.same s.x (omega arith) (omega (arith, has.some)))
      (below (s.y * w + s.x) (omega (arith, row_within w h s.y top, left, whole)));
}
  where
    rows : List (List ℕ)
    rows = rows_of w h ps

    count : length rows ≡ h
    count = rows_count w h ps

    has : HasRun rows s.y (run_of s)
    has = is.rows_have s.y (omega arith) (omega (arith, is.high))

    last : HasRun rows (s.y + s.h - 1) (run_of s)
    last = is.rows_have (s.y + s.h - 1) (omega (arith, is.high)) (omega (arith, is.high))

    top : s.y < h
    top = omega (arith, has.row, count)

    width : length (row_at rows s.y) ≡ w
    width = wide_row w h ps s.y whole top

    left : s.x < w
    left = omega (arith, has.some, has.inside, width)

-- where it stands, its pixel does
stands_in : (w h : ℕ) (ps : List ℕ) (b : ℕ) (s : Subrectangle) → length ps ≡ w * h → IsSubrectangle (rows_of w h ps) b s → StandsAt ps s.pixel
stands_in w h ps b s whole is = record {
  at = s.y * w + s.x;
  within = omega (arith, row_within w h s.y top, left, whole);
  there = sym (place_is w h ps s.x s.y left top) ∙ has.same s.x (omega arith) (omega (arith, has.some));
}
  where
    has : HasRun (rows_of w h ps) s.y (run_of s)
    has = is.rows_have s.y (omega arith) (omega (arith, is.high))

    top : s.y < h
    top = omega (arith, has.row, rows_count w h ps)

    left : s.x < w
    left = omega (arith, has.some, has.inside, wide_row w h ps s.y whole top)

abbrev pub plain : ℕ → Patch
plain b x y = b

-- what is painted is the pixel at each place
shows : ListsTheSubrectangles → (w h : ℕ) (ps : List ℕ) (b i j : ℕ) → length ps ≡ w * h → i < w → j < h → paint (subrectangles b (rows_of w h ps)) (plain b) i j ≡ pixel_in (rows_of w h ps) i j
shows lists w h ps b i j whole left top = paint_is (subrectangles b rows) (plain b) i j v each there
  where
    rows : List (List ℕ)
    rows = rows_of w h ps

    v : ℕ
    v = pixel_in rows i j

    each : (s : Subrectangle) → Contains (subrectangles b rows) s → covers s i j ≡ true → s.pixel ≡ v
    each s c e =
        let is = (lists rows b s).0 c in
        let low = and_true _ _ e in
        let down = and_true _ _ low.0 in
        let across = and_true _ _ down.0 in
        let has = is.rows_have j (leb-true s.y j down.1) (ltb-true j (s.y + s.h) low.1) in
        sym (has.same i (leb-true s.x i across.0) (ltb-true i (s.x + s.w) across.1))

    there : (b ≡ v) ⊎ Covering (subrectangles b rows) i j
    there = elim (cases_eq b v) [
      | inl e ↦ inl e
      | inr ne ↦ inr (covered b rows i j (omega (arith, rows_count w h ps)) (omega (arith, wide_row w h ps j whole top)) (λ q. ne (sym q)))
    ]

-- ---- which other pixels there are

abbrev Are : List ℕ → TilePixels → Type 0
Are xs Alone = xs ≡ []
Are xs (OneOther o) = (k : ℕ) → k < length xs → get_or xs k 0 ≡ o
Are xs Several = Unit {0}

all_at : (o : ℕ) (xs : List ℕ) → list_all (λ q. eqb q o) xs ≡ true → (k : ℕ) → k < length xs → get_or xs k 0 ≡ o
all_at o [] e k lt = absurd (omega arith)
all_at o (x ∷ xs) e zero lt = elim (eqb_tells x o) [ inl a ↦ a.1 | inr a ↦ absurd (let n : false ≡ true = rw a.0 at e in cc) ]
all_at o (x ∷ xs) e (suc k) lt = elim (eqb_tells x o) [ inl a ↦ all_at o xs (rw a.0 at e) k (omega arith) | inr a ↦ absurd (let n : false ≡ true = rw a.0 at e in cc) ]

kind_are : (xs : List ℕ) → Are xs (kind_of xs)
kind_are [] = refl
kind_are (x ∷ xs) = go (list_all (λ q. eqb q x) xs) refl
  where
    first : list_all (λ q. eqb q x) xs ≡ true → (k : ℕ) → k < suc (length xs) → get_or (x ∷ xs) k 0 ≡ x
    first e zero lt = refl
    first e (suc k) lt = all_at x xs e k (omega arith)

    go : (t : Bool) → list_all (λ q. eqb q x) xs ≡ t → Are (x ∷ xs) (cond {A = TilePixels} t (OneOther x) Several)
    go true e = first e
    go false e = tt

abbrev at : List ℕ → ℕ → ℕ
at ps k = get_or ps k 0

pub all_background : (b : ℕ) (ps : List ℕ) → others_of b ps ≡ Alone → (k : ℕ) → k < length ps → at ps k ≡ b
all_background b ps e k lt = elim (cases_eq (at ps k) b) [
  | inl h ↦ h
  | inr ne ↦
      let none : beside b ps ≡ [] = subst (Are (beside b ps)) e (kind_are (beside b ps)) in
      absurd (omega (arith, times_at ps k lt, apart2 ps (at ps k) b ne, beside_length b ps, ap (length {A = ℕ}) none))
]

pub all_other : (b o : ℕ) (ps : List ℕ) → others_of b ps ≡ OneOther o → (k : ℕ) → k < length ps → (at ps k ≡ b → ⊥) → at ps k ≡ o
all_other b o ps e k lt ne =
    let are : Are (beside b ps) (OneOther o) = subst (Are (beside b ps)) e (kind_are (beside b ps)) in
    let s = stands_at (beside b ps) (at ps k) (omega (arith, times_at ps k lt, beside_times b (at ps k) ps ne)) in
    sym s.there ∙ are s.at s.within

-- the one other pixel has room in the format
other_small : (f : PixelFormat) (b o : ℕ) (ps : List ℕ) → Below f ps → others_of b ps ≡ OneOther o → o < 2 ^ bit_count (format_bits f)
other_small f b o ps below e = go (beside b ps) refl
  where
    go : (xs : List ℕ) → beside b ps ≡ xs → o < 2 ^ bit_count (format_bits f)
    go [] h = absurd (different (sym e ∙ ap kind_of h))
      where
        different : OneOther o ≡ Alone → ⊥
        different q = cc
    go (x ∷ xs) h =
        let are : Are (beside b ps) (OneOther o) = subst (Are (beside b ps)) e (kind_are (beside b ps)) in
        let first : at (beside b ps) 0 ≡ o = are 0 (omega (arith, ap (length {A = ℕ}) h)) in
        let s = stands_at ps (at (beside b ps) 0) (stands_beside b ps (omega (arith, ap (length {A = ℕ}) h))) in
        subst (λ (p : ℕ). p < 2 ^ bit_count (format_bits f)) (s.there ∙ first) (below s.at s.within)

-- ---- bits

record Bits (bits : ℕ) (background foreground any coloured : Bool) : Type 0 where
  not_raw : has_bit bits 0 ≡ false
  background_is : has_bit bits 1 ≡ background
  foreground_is : has_bit bits 2 ≡ foreground
  any_is : has_bit bits 3 ≡ any
  coloured_is : has_bit bits 4 ≡ coloured

alone_bits : (t : Bool) → Bits (bit_unless t 2) (not t) false false false
alone_bits true = record { not_raw = refl; background_is = refl; foreground_is = refl; any_is = refl; coloured_is = refl }
alone_bits false = record { not_raw = refl; background_is = refl; foreground_is = refl; any_is = refl; coloured_is = refl }

other_bits : (t u : Bool) → Bits (bit_unless t 2 + bit_unless u 4 + 8) (not t) (not u) true false
other_bits true true = record { not_raw = refl; background_is = refl; foreground_is = refl; any_is = refl; coloured_is = refl }
other_bits true false = record { not_raw = refl; background_is = refl; foreground_is = refl; any_is = refl; coloured_is = refl }
other_bits false true = record { not_raw = refl; background_is = refl; foreground_is = refl; any_is = refl; coloured_is = refl }
other_bits false false = record { not_raw = refl; background_is = refl; foreground_is = refl; any_is = refl; coloured_is = refl }

several_bits : (t : Bool) → Bits (bit_unless t 2 + 8 + 16) (not t) false true true
several_bits true = record { not_raw = refl; background_is = refl; foreground_is = refl; any_is = refl; coloured_is = refl }
several_bits false = record { not_raw = refl; background_is = refl; foreground_is = refl; any_is = refl; coloured_is = refl }

-- ---- a tile that isn't raw

abbrev Read : Type 0
Read = Option (TileRead × List ℕ)

-- behind the background
abbrev rest_at : PixelFormat → Carried → Bool → Bool → Bool → Option ℕ × List ℕ → Read
rest_at f carried said any coloured background = do
  b ← background.0
  foreground ← specified_at f said carried.foreground background.1
  count ← cond any (number_at w8 foreground.1) (Some (0, foreground.1))
  patch ← subrectangles_at f coloured foreground.0 count.0 (λ x y. b) count.1
  Some (record { patch = patch.0; next = record { background = Some b; foreground = cond coloured None foreground.0 } }, patch.1)

-- behind the foreground
abbrev list_at : PixelFormat → ℕ → Bool → Option ℕ × List ℕ → Read
list_at f b coloured foreground = do
  count ← number_at w8 foreground.1
  patch ← subrectangles_at f coloured foreground.0 count.0 (λ x y. b) count.1
  Some (record { patch = patch.0; next = record { background = Some b; foreground = cond coloured None foreground.0 } }, patch.1)

abbrev done : ℕ → Bool → Option ℕ → Option (Patch × List ℕ) → Read
done b coloured foreground read = do
  patch ← read
  Some (record { patch = patch.0; next = record { background = Some b; foreground = cond coloured None foreground } }, patch.1)

background_back : (f : PixelFormat) (carried : Carried) (bits : ℕ) (said any coloured : Bool) (b : ℕ) (more : List ℕ) → Bits bits (not (is_carried carried.background b)) said any coloured → b < 2 ^ bit_count (format_bits f)
    → coded_tile_at f carried bits (bytes_unless (is_carried carried.background b) (pixel_bytes f b) ++ more) ≡ rest_at f carried said any coloured (Some b, more)
background_back f carried bits said any coloured b more are below =
    ap (λ (t : Bool). specified_at f t carried.background bytes >>= rest_at f carried (has_bit bits 2) (has_bit bits 3) (has_bit bits 4)) are.background_is
    ∙ ap (λ (o : Option (Option ℕ × List ℕ)). o >>= rest_at f carried (has_bit bits 2) (has_bit bits 3) (has_bit bits 4)) (said_back f carried.background b more (is_carried carried.background b) refl below)
    ∙ ap (λ (t : Bool). rest_at f carried t (has_bit bits 3) (has_bit bits 4) (Some b, more)) are.foreground_is
    ∙ ap (λ (t : Bool). rest_at f carried said t (has_bit bits 4) (Some b, more)) are.any_is
    ∙ ap (λ (t : Bool). rest_at f carried said any t (Some b, more)) are.coloured_is
  where
    bytes : List ℕ
    bytes = bytes_unless (is_carried carried.background b) (pixel_bytes f b) ++ more

alone_back : (f : PixelFormat) (carried : Carried) (b : ℕ) (subs : List Subrectangle) (more : List ℕ) → b < 2 ^ bit_count (format_bits f)
    → coded_tile_at f carried (bits_of carried b Alone) ((said_bytes f carried b Alone ++ list_bytes f subs Alone) ++ more) ≡ Some (record { patch = plain b; next = next_of carried b Alone }, more)
unfolding subrectangles_at
alone_back f carried b subs more below =
    ap (coded_tile_at f carried (bits_of carried b Alone)) (append_assoc (said_bytes f carried b Alone) [] more)
    ∙ background_back f carried (bits_of carried b Alone) false false false b more (alone_bits (is_carried carried.background b)) below

other_back : (f : PixelFormat) (carried : Carried) (b o : ℕ) (subs : List Subrectangle) (more : List ℕ) → b < 2 ^ bit_count (format_bits f) → o < 2 ^ bit_count (format_bits f)
    → ((s : Subrectangle) → Contains subs s → Fitting f s) → ((s : Subrectangle) → Contains subs s → s.pixel ≡ o)
    → coded_tile_at f carried (bits_of carried b (OneOther o)) ((said_bytes f carried b (OneOther o) ++ list_bytes f subs (OneOther o)) ++ more) ≡ Some (record { patch = paint subs (plain b); next = next_of carried b (OneOther o) }, more)
other_back f carried b o subs more below under each one =
    ap (coded_tile_at f carried (bits_of carried b (OneOther o))) (regroup first second (length subs ∷ flat_map (subrectangle_bytes f false) subs) more)
    ∙ background_back f carried (bits_of carried b (OneOther o)) (not (is_carried carried.foreground o)) true false b (second ++ list) (other_bits (is_carried carried.background b) (is_carried carried.foreground o)) below
    ∙ ap (λ (r : Option (Option ℕ × List ℕ)). r >>= list_at f b false) (said_back f carried.foreground o list (is_carried carried.foreground o) refl under)
    ∙ ap (done b false (Some o)) (subs_plain f o subs (plain b) more each one)
  where
    first : List ℕ
    first = bytes_unless (is_carried carried.background b) (pixel_bytes f b)

    second : List ℕ
    second = bytes_unless (is_carried carried.foreground o) (pixel_bytes f o)

    list : List ℕ
    list = length subs ∷ (flat_map (subrectangle_bytes f false) subs ++ more)

several_back : (f : PixelFormat) (carried : Carried) (b : ℕ) (subs : List Subrectangle) (more : List ℕ) → b < 2 ^ bit_count (format_bits f) → ((s : Subrectangle) → Contains subs s → Fitting f s)
    → coded_tile_at f carried (bits_of carried b Several) ((said_bytes f carried b Several ++ list_bytes f subs Several) ++ more) ≡ Some (record { patch = paint subs (plain b); next = next_of carried b Several }, more)
several_back f carried b subs more below each =
    ap (coded_tile_at f carried (bits_of carried b Several)) (append_assoc (said_bytes f carried b Several) (length subs ∷ flat_map (subrectangle_bytes f true) subs) more)
    ∙ background_back f carried (bits_of carried b Several) false true true b (length subs ∷ (flat_map (subrectangle_bytes f true) subs ++ more)) (several_bits (is_carried carried.background b)) below
    ∙ ap (done b true carried.foreground) (subs_coloured f carried.foreground subs (plain b) more each)

-- ---- a raw tile

raw_pixels : (f : PixelFormat) (ps more : List ℕ) → Below f ps → pixels_at f (length ps) (flat_map (pixel_bytes f) ps ++ more) ≡ Some (ps, more)
unfolding pixels_at
raw_pixels f [] more below = refl
raw_pixels f (p ∷ ps) more below =
    let here = pixel_back f p (flat_map (pixel_bytes f) ps ++ more) (below 0 (omega arith)) in
    let there = raw_pixels f ps more (λ k lt. below (suc k) (omega arith)) in
    ap (λ (t : List ℕ). pixels_at f (suc (length ps)) t) (append_assoc (pixel_bytes f p) (flat_map (pixel_bytes f) ps) more)
    ∙ rw (here, there) refl

raw_back : (f : PixelFormat) (w h : ℕ) (ps more : List ℕ) → length ps ≡ w * h → Below f ps → raw_at f w h (flat_map (pixel_bytes f) ps ++ more) ≡ Some (row_by_row w ps, more)
raw_back f w h ps more whole below =
    ap (λ n. pixels_at f n (flat_map (pixel_bytes f) ps ++ more) >>= λ pixels. Some (row_by_row w pixels.0, pixels.1)) (sym whole)
    ∙ ap (λ (o : Option (List ℕ × List ℕ)). o >>= λ pixels. Some (row_by_row w pixels.0, pixels.1)) (raw_pixels f ps more below)

-- ---- a tile

-- A tile, with whatever follows it, is read as its pixels and as what it leaves, and shows each pixel at its place.
pub record TileBack (f : PixelFormat) (w h : ℕ) (carried : Carried) (rows : List (List ℕ)) (more : List ℕ) : Type 0 where
  pub patch : Patch
  pub read : tile_at f w h carried ((tile f carried rows).bits ∷ (tile f carried rows).bytes ++ more) ≡ Some (record { patch = patch; next = (tile f carried rows).next }, more)
  pub shown : (i j : ℕ) → i < w → j < h → patch i j ≡ pixel_in rows i j

-- the same of a tile that is known
record CodedBack (f : PixelFormat) (w h : ℕ) (carried : Carried) (rows : List (List ℕ)) (c : Coded) (more : List ℕ) : Type 0 where
  patch : Patch
  read : tile_at f w h carried (c.bits ∷ c.bytes ++ more) ≡ Some (record { patch = patch; next = c.next }, more)
  shown : (i j : ℕ) → i < w → j < h → patch i j ≡ pixel_in rows i j

as_tile : (f : PixelFormat) (w h : ℕ) (carried : Carried) (rows : List (List ℕ)) (c : Coded) (more : List ℕ) → tile f carried rows ≡ c → CodedBack f w h carried rows c more → TileBack f w h carried rows more
as_tile f w h carried rows c more e k =
    let t : CodedBack f w h carried rows (tile f carried rows) more = subst (λ (d : Coded). CodedBack f w h carried rows d more) (sym e) k in
    record { patch = t.patch; read = t.read; shown = t.shown }

not_raw_back : (f : PixelFormat) (w h : ℕ) (carried : Carried) (bits : ℕ) (bytes : List ℕ) → has_bit bits 0 ≡ false → tile_at f w h carried (bits ∷ bytes) ≡ coded_tile_at f carried bits bytes
not_raw_back f w h carried bits bytes e = ap (λ (t : Bool). cond t (raw_tile_at f w h bytes) (coded_tile_at f carried bits bytes)) e

coded_back : FindsTheBackground → ListsTheSubrectangles → (f : PixelFormat) (w h : ℕ) (ps : List ℕ) (carried : Carried) (others : TilePixels) (more : List ℕ) → others ≡ others_of (background_of ps) ps → 0 < length ps → length ps ≡ w * h → w ≤ 16 → h ≤ 16 → Below f ps
    → CodedBack f w h carried (rows_of w h ps) (coded f carried (background_of ps) (subrectangles (background_of ps) (rows_of w h ps)) others) more
coded_back finds lists f w h ps carried others more is some whole narrow low below = go others is
  where
    b : ℕ
    b = background_of ps

    rows : List (List ℕ)
    rows = rows_of w h ps

    subs : List Subrectangle
    subs = subrectangles b rows

    stands : StandsAt ps b
    stands = stands_at ps b (finds ps some).stands_there

    small : b < 2 ^ bit_count (format_bits f)
    small = subst (λ (p : ℕ). p < 2 ^ bit_count (format_bits f)) stands.there (below stands.at stands.within)

    each : (s : Subrectangle) → Contains subs s → Fitting f s
    each s c = fitting f w h ps b s narrow low whole below ((lists rows b s).0 c)

    inside : (i j : ℕ) → i < w → j < h → j * w + i < length ps
    inside i j left top = omega (arith, row_within w h j top, left, whole)

    other : (o : ℕ) → OneOther o ≡ others_of b ps → ((s : Subrectangle) → Contains subs s → s.pixel ≡ o) → CodedBack f w h carried rows (coded f carried b subs (OneOther o)) more
    other o e one = record {
      patch = paint subs (plain b);
      read = not_raw_back f w h carried (bits_of carried b (OneOther o)) ((said_bytes f carried b (OneOther o) ++ list_bytes f subs (OneOther o)) ++ more)
          (other_bits (is_carried carried.background b) (is_carried carried.foreground o)).not_raw
          ∙ other_back f carried b o subs more small (other_small f b o ps below (sym e)) each one;
      shown = λ i j left top. shows lists w h ps b i j whole left top;
    }

    go : (others : TilePixels) → others ≡ others_of b ps → CodedBack f w h carried rows (coded f carried b subs others) more
    go Alone e = record {
      patch = plain b;
      read = not_raw_back f w h carried (bits_of carried b Alone) ((said_bytes f carried b Alone ++ list_bytes f subs Alone) ++ more) (alone_bits (is_carried carried.background b)).not_raw
          ∙ alone_back f carried b subs more small;
      shown = λ i j left top. sym (place_is w h ps i j left top ∙ all_background b ps (sym e) (j * w + i) (inside i j left top));
    }
    go (OneOther o) e = other o e (λ s c.
        let is = (lists rows b s).0 c in
        let t = stands_in w h ps b s whole is in
        sym t.there ∙ all_other b o ps (sym e) t.at t.within (λ q. is.other (sym t.there ∙ q)))
    go Several e = record {
      patch = paint subs (plain b);
      read = not_raw_back f w h carried (bits_of carried b Several) ((said_bytes f carried b Several ++ list_bytes f subs Several) ++ more) (several_bits (is_carried carried.background b)).not_raw
          ∙ several_back f carried b subs more small each;
      shown = λ i j left top. shows lists w h ps b i j whole left top;
    }

pub tile_back : FindsTheBackground → ListsTheSubrectangles → (f : PixelFormat) (w h : ℕ) (ps : List ℕ) (carried : Carried) (more : List ℕ) → 0 < length ps → length ps ≡ w * h → w ≤ 16 → h ≤ 16 → Below f ps → TileBack f w h carried (rows_of w h ps) more
tile_back finds lists f w h ps carried more some whole narrow low below =
    elim (cases_lt (length (said_bytes f carried b others ++ list_bytes f (subrectangles b rows) others)) (length ps * bytes_per_pixel f)) [
      | inl lt ↦ as_tile f w h carried rows (coded f carried b (subrectangles b rows) others) more (tile_short f carried rows ps b others (concat_rows w h ps whole) refl refl lt)
          (coded_back finds lists f w h ps carried others more refl some whole narrow low below)
      | inr le ↦ as_tile f w h carried rows (raw_tile f ps) more (tile_long f carried rows ps b others (concat_rows w h ps whole) refl refl le) (record {
        patch = row_by_row w ps;
        read = ap (λ (o : Option (Patch × List ℕ)). o >>= λ patch. Some (record { patch = patch.0; next = nothing }, patch.1)) (raw_back f w h ps more whole below);
        shown = λ i j left top. sym (place_is w h ps i j left top);
      })
    ]
  where
    b : ℕ
    b = background_of ps

    others : TilePixels
    others = others_of b ps

    rows : List (List ℕ)
    rows = rows_of w h ps
