-- A rectangle in RRE is read back.
use Rattle.std.proofs.Common.{◌≡◌, ℕ, suc, pos, ◌+◌, ◌-◌, ◌*◌, ◌^◌, ◌<◌, ◌≤◌, ◌⊎◌, inl, inr, Bool, true, false, cond, eqb, ltb, List, [], ◌∷◌, ◌++◌, length, map, drop, get_or, Contains, Option, Some, refl, sym, ap, subst, ◌∙◌, arith, append_assoc, FitsSigned}
use Rattle.std.specs.List.{flat_map}
use Rattle.std.specs.Int.{w16, w32, to_be_bytes, from_be_bytes}
use Rattle.std.proofs.lemmas.Nat.{from_be_bytes-to_be_bytes_2, from_be_bytes-to_be_bytes_4}
use Rattle.std.proofs.lemmas.Bool.{cases_eq, ltb-true, leb-true}
use Rattle.std.proofs.lemmas.List.{get_or-map, get_or-drop, get_or-take, length-take-le, length-drop, length-map}
use Rattle.std.proofs.Math.Nat.{suc-mul, mul-le-mul_right}
use Rattle.std.proofs.lemmas.Bool.Decides.{eqb_tells}
use Rattle.std.proofs.lemmas.List.Sums.{sum_by-cons}
use Rattle.pixel_translate.specs.declared.PixelFormat.{PixelFormat}
use Rattle.pixel_translate.specs.Pixel.{bit_count, bytes_per_pixel, be16, pixel, pixel_bytes, bits_of}
use Rattle.pixel_translate.specs.Bounds.{pixel_below}
use Rattle.encode_raw.specs.Raw.{head, raw}
use Rattle.encode_raw.specs.Reading.{◌>>=◌, number_at, pixel_at, head_at, Patch}
use Rattle.encode_raw.specs.Claims.{pixels_of, raw_reads_back}
use Rattle.encode_raw.specs.Back.{pixel_back, head_back, same_patched}
use Rattle.subrectangles.specs.declared.Subrectangle.{Subrectangle}
use Rattle.encode_rre.specs.Claims.{ReadsBack, rre_reads_back}
use Rattle.subrectangles.specs.Reading.{subrectangle_at, subrectangles_at, painted, rre_at}
use Rattle.subrectangles.specs.Bytes.{subrectangle_bytes}
use Rattle.encode_rre.specs.Rre.{rre_data, rre_of}
use Rattle.subrectangles.specs.Subrectangles.{IsSubrectangle, HasRun, run_of, times, rows_of, row_at, pixel_in, background_of, subrectangles}
use Rattle.subrectangles.specs.MostFrequent.{finds_the_background}
use Rattle.subrectangles.specs.Listed.{lists_the_subrectangles, head_of, tail_of}
use Rattle.subrectangles.specs.Scans.{row_is, rows_count}
use Rattle.encode_rre.proofs.Lengths.{data_length, few, pick_no, pick_yes}
use Rattle.subrectangles.specs.Paint.{paint, paint_is, covers, Covering, covered, and_true}

-- a subrectangle whose numbers have room on the wire
pub record Fitting (f : PixelFormat) (s : Subrectangle) : Type 0 where
  pub x : s.x < 2 ^ 16
  pub y : s.y < 2 ^ 16
  pub w : s.w < 2 ^ 16
  pub h : s.h < 2 ^ 16
  pub pixel : s.pixel < 2 ^ bit_count (bits_of f)

abbrev read : ℕ → ℕ → ℕ → ℕ → ℕ → List ℕ → Option (Subrectangle × List ℕ)
read x y w h p more = Some (record { x = x; y = y; w = w; h = h; pixel = p }, more)

abbrev back2 : ℕ → ℕ
back2 n = from_be_bytes w16 (to_be_bytes w16 n)

-- the bytes of a subrectangle behind its pixel
abbrev places : Subrectangle → List ℕ → List ℕ
places s more = be16 s.x ++ (be16 s.y ++ (be16 s.w ++ (be16 s.h ++ more)))

regroup : (p a b c d more : List ℕ) → ((((p ++ a) ++ b) ++ c) ++ d) ++ more ≡ p ++ (a ++ (b ++ (c ++ (d ++ more))))
regroup p a b c d more = simp append_assoc

abbrev rest_at : ℕ → List ℕ → Option (Subrectangle × List ℕ)
rest_at p bytes = do
  x ← number_at w16 bytes
  y ← number_at w16 x.1
  w ← number_at w16 y.1
  h ← number_at w16 w.1
  Some (record { x = x.0; y = y.0; w = w.0; h = h.0; pixel = p }, h.1)

rest_back : (s : Subrectangle) (more : List ℕ) → s.x < 2 ^ 16 → s.y < 2 ^ 16 → s.w < 2 ^ 16 → s.h < 2 ^ 16 → rest_at s.pixel (places s more) ≡ Some (s, more)
rest_back s more a b c d =
    ap (λ (n : ℕ). read n (back2 s.y) (back2 s.w) (back2 s.h) s.pixel more) (from_be_bytes-to_be_bytes_2 s.x a)
    ∙ ap (λ (n : ℕ). read s.x n (back2 s.w) (back2 s.h) s.pixel more) (from_be_bytes-to_be_bytes_2 s.y b)
    ∙ ap (λ (n : ℕ). read s.x s.y n (back2 s.h) s.pixel more) (from_be_bytes-to_be_bytes_2 s.w c)
    ∙ ap (λ (n : ℕ). read s.x s.y s.w n s.pixel more) (from_be_bytes-to_be_bytes_2 s.h d)

sub_back : (f : PixelFormat) (s : Subrectangle) (more : List ℕ) → Fitting f s → subrectangle_at f (subrectangle_bytes f s ++ more) ≡ Some (s, more)
sub_back f s more fit =
    ap (subrectangle_at f) (regroup (pixel_bytes f s.pixel) (be16 s.x) (be16 s.y) (be16 s.w) (be16 s.h) more)
    ∙ ap (λ (o : Option (ℕ × List ℕ)). o >>= λ p. rest_at p.0 p.1) (pixel_back f s.pixel (places s more) fit.pixel)
    ∙ rest_back s more fit.x fit.y fit.w fit.h

subs_back : (f : PixelFormat) (subs : List Subrectangle) (patch : Patch) (more : List ℕ) → ((s : Subrectangle) → Contains subs s → Fitting f s)
    → subrectangles_at f (length subs) patch (flat_map (subrectangle_bytes f) subs ++ more) ≡ Some (paint subs patch, more)
unfolding subrectangles_at paint
subs_back f [] patch more each = refl
subs_back f (s ∷ subs) patch more each =
    let later = subs_back f subs (painted s patch) more (λ t c. each t (tail_of s subs t c)) in
    ap (λ (t : List ℕ). subrectangles_at f (suc (length subs)) patch t) (append_assoc (subrectangle_bytes f s) (flat_map (subrectangle_bytes f) subs) more)
    ∙ ap (λ (o : Option (Subrectangle × List ℕ)). o >>= λ p. subrectangles_at f (length subs) (painted p.0 patch) p.1)
    (sub_back f s (flat_map (subrectangle_bytes f) subs ++ more) (each s (head_of s subs)))
    ∙ later

abbrev after_count : PixelFormat → ℕ → List ℕ → Option (Patch × List ℕ)
after_count f n bytes = do
  background ← pixel_at f bytes
  subrectangles_at f n (λ x y. background.0) background.1

abbrev plain : ℕ → Patch
plain b x y = b

data_back : (f : PixelFormat) (b : ℕ) (subs : List Subrectangle) (more : List ℕ) → length subs < 2 ^ 32 → b < 2 ^ bit_count (bits_of f) → ((s : Subrectangle) → Contains subs s → Fitting f s)
    → rre_at f (rre_data f b subs ++ more) ≡ Some (paint subs (plain b), more)
data_back f b subs more small below each =
    ap (λ (n : ℕ). after_count f n ((pixel_bytes f b ++ flat_map (subrectangle_bytes f) subs) ++ more)) (from_be_bytes-to_be_bytes_4 (length subs) small)
    ∙ ap (after_count f (length subs)) (append_assoc (pixel_bytes f b) (flat_map (subrectangle_bytes f) subs) more)
    ∙ ap (λ (o : Option (ℕ × List ℕ)). o >>= λ p. subrectangles_at f (length subs) (λ x y. p.0) p.1) (pixel_back f b (flat_map (subrectangle_bytes f) subs ++ more) below)
    ∙ subs_back f subs (plain b) more each

-- ---- the pixels of a rectangle

row_within : (w h j : ℕ) → j < h → j * w + w ≤ w * h
row_within w h j lt =
    let rows : suc j * w ≤ h * w = mul-le-mul_right w lt in
    omega (arith, rows, suc-mul j w)

wide : (w h : ℕ) (ps : List ℕ) (j : ℕ) → length ps ≡ w * h → j < h → length (row_at (rows_of w h ps) j) ≡ w
wide w h ps j whole lt =
    ap (length {A = ℕ}) (row_is w h ps j lt) ∙ length-take-le w (drop (j * w) ps) (omega (arith, length-drop (j * w) ps, row_within w h j lt, whole))

place_is : (f : PixelFormat) (w h : ℕ) (colours : List ℕ) (i j : ℕ) → length colours ≡ w * h → i < w → j < h
    → pixel_in (rows_of w h (map (pixel f) colours)) i j ≡ pixel f (get_or colours (j * w + i) 0)
place_is f w h colours i j whole left top =
    ap (λ (row : List ℕ). get_or row i 0) (row_is w h (map (pixel f) colours) j top) ∙ get_or-take w (drop (j * w) (map (pixel f) colours)) i 0 left
    ∙ get_or-drop (j * w) (map (pixel f) colours) i 0 ∙ get_or-map (pixel f) colours (j * w + i) 0 0 (omega (arith, row_within w h j top, whole))

fitting : (f : PixelFormat) (w h : ℕ) (colours : List ℕ) (b : ℕ) (s : Subrectangle) → w < 2 ^ 16 → h < 2 ^ 16 → length colours ≡ w * h
    → IsSubrectangle (rows_of w h (map (pixel f) colours)) b s → Fitting f s
fitting f w h colours b s narrow low whole is = record {
  x = omega (arith, has.some, has.inside, width);
  y = omega (arith, top);
  w = omega (arith, has.inside, width);
  h = omega (arith, is.high, last.row, count);
  pixel = subst (λ (p : ℕ). p < 2 ^ bit_count (bits_of f)) (sym (place_is f w h colours s.x s.y whole (omega (arith, has.some, has.inside, width)) top) ∙ has.same s.x (omega arith) (omega (arith, has.some))) (pixel_below f (get_or colours (s.y * w + s.x) 0));
}
  where
    rows : List (List ℕ)
    rows = rows_of w h (map (pixel f) colours)

    count : length rows ≡ h
    count = rows_count w h (map (pixel f) colours)

    has : HasRun rows s.y (run_of s)
    has = is.rows_have s.y (omega arith) (omega (arith, is.high))

    last : HasRun rows (s.y + s.h - 1) (run_of s)
    last = is.rows_have (s.y + s.h - 1) (omega (arith, is.high)) (omega (arith, is.high))

    top : s.y < h
    top = omega (arith, has.row, count)

    width : length (row_at rows s.y) ≡ w
    width = wide w h (map (pixel f) colours) s.y (length-map colours (pixel f) ∙ whole) top

stands_below : (f : PixelFormat) (b : ℕ) (colours : List ℕ) → 0 < times b (map (pixel f) colours) → b < 2 ^ bit_count (bits_of f)
stands_below f b [] lt = absurd (omega arith)
stands_below f b (c ∷ colours) lt =
    elim (eqb_tells (pixel f c) b) [
      | inl e ↦ subst (λ (p : ℕ). p < 2 ^ bit_count (bits_of f)) e.1 (pixel_below f c)
      | inr ne ↦ stands_below f b colours
          (omega (arith, sum_by-cons (λ (q : ℕ). cond (eqb q b) 1 0) (pixel f c) (map (pixel f) colours), ap (λ (t : Bool). cond {A = ℕ} t 1 0) ne.0))
    ]

-- what is painted is the pixel at each place
shows : (f : PixelFormat) (w h : ℕ) (colours : List ℕ) (b i j : ℕ) → length colours ≡ w * h → i < w → j < h
    → paint (subrectangles b (rows_of w h (map (pixel f) colours))) (plain b) i j ≡ pixel f (get_or colours (j * w + i) 0)
shows f w h colours b i j whole left top =
    paint_is (subrectangles b rows) (plain b) i j v each there ∙ place_is f w h colours i j whole left top
  where
    rows : List (List ℕ)
    rows = rows_of w h (map (pixel f) colours)

    v : ℕ
    v = pixel_in rows i j

    each : (s : Subrectangle) → Contains (subrectangles b rows) s → covers s i j ≡ true → s.pixel ≡ v
    each s c e =
        let is = (lists_the_subrectangles rows b s).0 c in
        let low = and_true _ _ e in
        let down = and_true _ _ low.0 in
        let across = and_true _ _ down.0 in
        let has = is.rows_have j (leb-true s.y j down.1) (ltb-true j (s.y + s.h) low.1) in
        sym (has.same i (leb-true s.x i across.0) (ltb-true i (s.x + s.w) across.1))

    there : (b ≡ v) ⊎ Covering (subrectangles b rows) i j
    there = elim (cases_eq b v) [
      | inl e ↦ inl e
      | inr ne ↦
          let high : j < length rows = omega (arith, rows_count w h (map (pixel f) colours)) in
          let in_row : i < length (row_at rows j) = omega (arith, wide w h (map (pixel f) colours) j (length-map colours (pixel f) ∙ whole) top) in
          inr (covered b rows i j high in_row (λ q. ne (sym q)))
    ]

pub reads_back : raw_reads_back → rre_reads_back
reads_back as_raw f a colours more fits some whole = go (ltb (length coded) (a.w * a.h * bytes_per_pixel f)) refl
  where
    ps : List ℕ
    ps = map (pixel f) colours

    b : ℕ
    b = background_of ps

    rows : List (List ℕ)
    rows = rows_of a.w a.h ps

    subs : List Subrectangle
    subs = subrectangles b rows

    coded : List ℕ
    coded = rre_of f a.w a.h ps

    small : FitsSigned w32 (pos 2)
    small = record { sfits = omega arith }

    shorter : ltb (length coded) (a.w * a.h * bytes_per_pixel f) ≡ true → ReadsBack f a colours more
    shorter e =
        let lt = ltb-true _ _ e in
        let count : length subs < 2 ^ 32 = few a.w a.h (bytes_per_pixel f) (length subs) fits.w fits.h (omega (arith, lt, data_length f b subs)) in
        let stands : 0 < times b ps = (finds_the_background ps (omega (arith, some, length-map colours (pixel f)))).stands_there in
        record {
          encoding = pos 2;
          body = coded ++ more;
          patch = paint subs (plain b);
          head = ap (λ (t : List ℕ). head_at (t ++ more)) (pick_yes _ (head a (pos 2) ++ coded) (raw f a colours) e) ∙ ap head_at (append_assoc (head a (pos 2)) coded more)
              ∙ head_back a (pos 2) (coded ++ more) fits small;
          pixels = inr (refl, data_back f b subs more count (stands_below f b colours stands) (λ s c. fitting f a.w a.h colours b s fits.w fits.h whole ((lists_the_subrectangles rows b s).0 c)));
          shown = λ before x y. same_patched f a (paint subs (plain b)) (pixels_of f a.w colours) before (λ i j left top. shows f a.w a.h colours b i j whole left top) x y;
        }

    longer : ltb (length coded) (a.w * a.h * bytes_per_pixel f) ≡ false → ReadsBack f a colours more
    longer e =
        let r = as_raw f a colours more fits whole in
        record {
          encoding = pos 0;
          body = r.body;
          patch = r.patch;
          head = ap (λ (t : List ℕ). head_at (t ++ more)) (pick_no _ (head a (pos 2) ++ coded) (raw f a colours) e) ∙ r.head;
          pixels = inl (refl, r.pixels);
          shown = r.shown;
        }

    go : (t : Bool) → ltb (length coded) (a.w * a.h * bytes_per_pixel f) ≡ t → ReadsBack f a colours more
    go true e = shorter e
    go false e = longer e
