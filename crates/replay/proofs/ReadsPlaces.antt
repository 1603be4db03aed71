-- Rectangles are read back.
use Rattle.std.proofs.Common.{◌≡◌, inl, inr, ℕ, ◌+◌, ◌-◌, ◌*◌, ◌^◌, ◌<◌, ◌≤◌, Bool, true, false, cond, ◌&&◌, leb, List, [], ◌∷◌, ◌++◌, length, refl, ap, ◌∙◌, arith, Option, Some, None, ℤ}
use Rattle.std.specs.Prelude.{pos, negsuc, neg_ℤ, ◌+ℤ◌, ◌-ℤ◌, nat_abs, flat_map, option_map, option_and_then}
use Rattle.std.specs.Fmt.{signed_decimal}
use Rattle.std.specs.List.{AllByRecursion}
use Rattle.std.proofs.lemmas.Int.{ints}
use Rattle.region.specs.declared.Rect.{Rect}
use Rattle.scene.specs.Alone.{is_span, is_within}
use Rattle.recorder.specs.Words.{corner_words, place_words}
use Rattle.play_script.specs.Words.{number, number_limit, signed, hex_colours}
use Rattle.play_script.specs.Lines.{places_by, places_of, pixels_of, corners_of, spread}
use Rattle.replay.specs.Lines.{corner, corners, rects_of, behind_rects}
use Rattle.replay.specs.Said.{AreCorners, AreColoursOf, said_colours}
use Rattle.replay.proofs.ReadsTests.{both_true, within, below}
use Rattle.replay.proofs.ReadsWords.{IsWord, AreWords}
use Rattle.replay.proofs.ReadsNumbers.{AtMost, number_is_read, signed_is_word, decimal_is_word, signed_at_most, corner_is_read}

-- ---- columns or rows

pub record Span (from to : ℤ) (limit : ℕ) : Type 0 where
  pub start : ℕ
  pub count : ℕ
  pub from_is : from ≡ pos start
  pub to_is : to ≡ pos (start + count)
  pub high : start + count ≤ limit

no_end : (b : Bool) → (b && false && true) ≡ true → ⊥
no_end true h = cc
no_end false h = cc

pub span_of : (from to : ℤ) (limit : ℕ) → is_span from to limit ≡ true → Span from to limit
span_of (pos a) (pos b) limit h =
    let both = both_true (leb 0 a && leb a b) (leb b limit) h in
    let order : a ≤ b = below a b (both_true (leb 0 a) (leb a b) both.0).1 in
    let high : b ≤ limit = below b limit both.1 in
    record { start = a; count = b - a; from_is = refl; to_is = ap pos (let e : b ≡ a + (b - a) = omega arith in e); high = omega arith }
span_of (pos a) (negsuc b) limit h = absurd (no_end (leb 0 a) h)
span_of (negsuc a) to limit h = absurd cc

pub span_size : (from to : ℤ) (limit : ℕ) (s : Span from to limit) → to +ℤ neg_ℤ from ≡ pos s.count
span_size from to limit s = omega (arith, ints, s.from_is, s.to_is)

pub span_abs : (from to : ℤ) (limit : ℕ) (s : Span from to limit) → nat_abs (to -ℤ from) ≡ s.count
span_abs from to limit s = ap nat_abs (let e : to -ℤ from ≡ pos s.count = omega (arith, ints, s.from_is, s.to_is) in e)

-- ---- X Y W H

-- columns and rows of a rectangle
pub record Sides (r : Rect) (w h : ℕ) : Type 0 where
  pub across : Span r.x1 r.x2 w
  pub down : Span r.y1 r.y2 h

pub sides_of : (r : Rect) (w h : ℕ) → is_within w h r ≡ true → Sides r w h
sides_of r w h e =
    let both = both_true (is_span r.x1 r.x2 w) (is_span r.y1 r.y2 h) e in
    record { across = span_of r.x1 r.x2 w both.0; down = span_of r.y1 r.y2 h both.1 }

number_of_pos : (z : ℤ) (n : ℕ) → z ≡ pos n → n < 2 ^ 31 → number (signed_decimal z) ≡ Some n
number_of_pos z n e h = ap (λ y. number (signed_decimal y)) e ∙ number_is_read n h

word_of_pos : (z : ℤ) (n : ℕ) → z ≡ pos n → n < 2 ^ 31 → IsWord (signed_decimal z)
word_of_pos z n e h = rw e (decimal_is_word n (omega arith))

pub place_are_words : (r : Rect) (cs : List ℕ) → AreColoursOf r cs → AreWords (place_words r)
place_are_words r cs h =
    let s = sides_of r number_limit number_limit h.within in
    let a = s.across in
    let d = s.down in (
      word_of_pos r.x1 a.start a.from_is (omega (arith, a.high)),
      (
        word_of_pos r.y1 d.start d.from_is (omega (arith, d.high)),
        (
          word_of_pos _ a.count (span_size r.x1 r.x2 number_limit a) (omega (arith, a.high)),
          (word_of_pos _ d.count (span_size r.y1 r.y2 number_limit d) (omega (arith, d.high)), tt),
        ),
      ),
    )

all_three : {P : Type 0} (p q t : Bool) (x : P) → p ≡ true → q ≡ true → t ≡ true → cond (p && q && t) (Some x) None ≡ Some x
all_three p q t x a b c = rw (a, b, c) refl

places_are : (x y w h : ℕ) → x + w < 2 ^ 31 → y + h < 2 ^ 31 → w * h ≤ 2 ^ 24
    → places_by x y w h ≡ Some (record { rect = record { x1 = pos x; y1 = pos y; x2 = pos (x + w); y2 = pos (y + h) }; count = w * h })
places_are x y w h a b c = all_three _ _ _ _ (within (x + w) number_limit (omega arith)) (within (y + h) number_limit (omega arith)) (within (w * h) (2 ^ 24) c)

places_by_words : (command wx wy ww wh px : List ℕ) (x y w h : ℕ) → number wx ≡ Some x → number wy ≡ Some y → number ww ≡ Some w → number wh ≡ Some h
    → places_of (command ∷ wx ∷ wy ∷ ww ∷ wh ∷ px ∷ []) ≡ places_by x y w h
unfolding places_of
places_by_words command wx wy ww wh px x y w h a b c d = rw (a, b, c, d) refl

pixels_by : {P Q : Type 0} (places : Option P) (p : P) (f : P → List ℕ → Q) (spreads : P → ℕ) (px : Option (List ℕ)) (cs : List ℕ) → places ≡ Some p → option_map (spread (spreads p)) px ≡ Some cs
    → option_and_then (λ q. option_and_then (λ colours. Some (f q (spread (spreads q) colours))) px) places ≡ Some (f p cs)
pixels_by places p f spreads None cs e h = absurd (let clash : None ≡ Some cs = h in cc)
pixels_by places p f spreads (Some ds) cs e h = rw e (ap (λ (o : Option (List ℕ)). option_map (f p) o) h)

corners_eq : (r : Rect) (a b c d : ℤ) → r.x1 ≡ a → r.y1 ≡ b → r.x2 ≡ c → r.y2 ≡ d → record { x1 = a; y1 = b; x2 = c; y2 = d } ≡ r
corners_eq r a b c d e f g h = rw (e, f, g, h) refl

-- a rectangle and its colours
pub pixels_by_place : (command px : List ℕ) (r : Rect) (cs : List ℕ) → AreColoursOf r cs → ((n : ℕ) → length cs ≡ n → option_map (spread n) (hex_colours px) ≡ Some (said_colours cs))
    → pixels_of (command ∷ (place_words r ++ px ∷ [])) ≡ Some (record { rect = r; colours = said_colours cs })
unfolding pixels_of
pixels_by_place command px r cs h read =
    let s = sides_of r number_limit number_limit h.within in
    let a = s.across in
    let d = s.down in
    let x = a.start in
    let y = d.start in
    let w = a.count in
    let k = d.count in
    let many : length cs ≡ w * k = h.count ∙ ap (λ (n : ℕ). n * nat_abs (r.y2 -ℤ r.y1)) (span_abs r.x1 r.x2 number_limit a) ∙ ap (λ (n : ℕ). w * n) (span_abs r.y1 r.y2 number_limit d) in
    let few : w * k ≤ 2 ^ 24 = omega (arith, many, h.few) in
    let places =
    places_by_words command _ _ _ _ px x y w k
    (number_of_pos r.x1 x a.from_is (omega (arith, a.high))) (number_of_pos r.y1 y d.from_is (omega (arith, d.high)))
    (number_of_pos _ w (span_size r.x1 r.x2 number_limit a) (omega (arith, a.high))) (number_of_pos _ k (span_size r.y1 r.y2 number_limit d) (omega (arith, d.high)))
    ∙ places_are x y w k (omega (arith, a.high)) (omega (arith, d.high)) few in
    pixels_by _ _ (λ p colours. record { rect = p.rect; colours = colours }) (λ p. p.count) (hex_colours px) (said_colours cs) places (read (w * k) many)
    ∙ ap (λ (q : Rect). Some (record { rect = q; colours = said_colours cs })) (corners_eq r _ _ _ _ a.from_is d.from_is a.to_is d.to_is)

-- ---- X1 Y1 X2 Y2

pub corner_are_words : (r : Rect) → AreCorners r → AreWords (corner_words r)
corner_are_words r h = (signed_is_word r.x1 h.x1, (signed_is_word r.y1 h.y1, (signed_is_word r.x2 h.x2, (signed_is_word r.y2 h.y2, tt))))

-- a script reads the corners, or doesn't
pub then_at_most : {A B : Type 0} (o : Option A) (f : A → Option B) (x : A) (y : B) → AtMost o x → AtMost (f x) y → AtMost (option_and_then f o) y
then_at_most o f x y (inl e) h = rw e h
then_at_most o f x y (inr e) h = inr (rw e refl)

pub corners_at_most : (command : List ℕ) (r : Rect) (more : List (List ℕ)) → AreCorners r → AtMost (corners_of (command ∷ (corner_words r ++ more))) r
unfolding corners_of
corners_at_most command r more h =
    then_at_most (signed (signed_decimal r.x1)) _ r.x1 r (signed_at_most r.x1 h.x1)
    (then_at_most (signed (signed_decimal r.y1)) _ r.y1 r (signed_at_most r.y1 h.y1)
    (then_at_most (signed (signed_decimal r.x2)) _ r.x2 r (signed_at_most r.x2 h.x2)
    (then_at_most (signed (signed_decimal r.y2)) _ r.y2 r (signed_at_most r.y2 h.y2) (inl refl))))

-- ---- a session's lines of any number of rectangles

abbrev pub numbers_of : Rect → List ℤ
numbers_of r = r.x1 ∷ r.y1 ∷ r.x2 ∷ r.y2 ∷ []

four_read : (wa wb wc wd : List ℕ) (ws : List (List ℕ)) (a b c d : ℤ) (ns : List ℤ) → corner wa ≡ Some a → corner wb ≡ Some b → corner wc ≡ Some c → corner wd ≡ Some d → corners ws ≡ Some ns
    → corners (wa ∷ wb ∷ wc ∷ wd ∷ ws) ≡ Some (a ∷ b ∷ c ∷ d ∷ ns)
four_read wa wb wc wd ws a b c d ns e f g h i = rw (e, f, g, h, i) refl

pub two_read : (wa wb : List ℕ) (a b : ℤ) → corner wa ≡ Some a → corner wb ≡ Some b → corners (wa ∷ wb ∷ []) ≡ Some (a ∷ b ∷ [])
two_read wa wb a b e f = rw (e, f) refl

pub rects_read : (rs : List Rect) (ws : List (List ℕ)) (ns : List ℤ) → AllByRecursion AreCorners rs → corners ws ≡ Some ns → corners (flat_map corner_words rs ++ ws) ≡ Some (flat_map numbers_of rs ++ ns)
rects_read [] ws ns h e = e
rects_read (r ∷ rs) ws ns h e =
    four_read (signed_decimal r.x1) (signed_decimal r.y1) (signed_decimal r.x2) (signed_decimal r.y2) (flat_map corner_words rs ++ ws) r.x1 r.y1 r.x2 r.y2 (flat_map numbers_of rs ++ ns)
    (corner_is_read r.x1 h.0.x1) (corner_is_read r.y1 h.0.y1) (corner_is_read r.x2 h.0.x2) (corner_is_read r.y2 h.0.y2) (rects_read rs ws ns h.1 e)

pub rects_back : (rs : List Rect) (ns : List ℤ) → rects_of (flat_map numbers_of rs ++ ns) ≡ rs ++ rects_of ns
rects_back [] ns = refl
rects_back (r ∷ rs) ns = ap (λ (l : List Rect). r ∷ l) (rects_back rs ns)

pub behind_back : (rs : List Rect) (ns : List ℤ) → behind_rects (flat_map numbers_of rs ++ ns) ≡ behind_rects ns
behind_back [] ns = refl
behind_back (r ∷ rs) ns = behind_back rs ns
