-- Moves of rectangles, row by row.
use Rattle.std.proofs.Common.{◌≡◌, ℕ, ℤ, pos, negsuc, ◌+◌, ◌-◌, ◌*◌, ◌<◌, ◌≤◌, Bool, true, false, cond, ◌&&◌, ◌||◌, List, [], ◌∷◌, length, get_or, take, All, refl, sym, ap, ◌∙◌, subst, arith, inl, inr}
use Rattle.std.specs.Prelude.{◌-ℤ◌, ◌≤ℤ◌, ◌<ℤ◌, nat_abs, int_le, int_lt, nat_le, nat_lt, ◌==◌}
use Rattle.std.proofs.Math.Nat.{mul-le-mul_right}
use Rattle.std.proofs.lemmas.Bool.Decides.{nat_tests, leb_tells, Decides-eqb}
use Rattle.std.proofs.lemmas.Int.{ints}
use Rattle.std.proofs.lemmas.List.Folds.{list_any_more, list_any_at, Any-from_list_any}
use Rattle.region.specs.declared.Rect.{Rect}
use Rattle.region.specs.Region.{in_rect, covers, on_screen, order, IsCanonical}
use Rattle.region.specs.Places.{IsOnScreen, source_rect}
use Rattle.region.specs.Copies.{InOrder}
use Rattle.region.specs.PlaceLemmas.{number}
use Rattle.region.specs.ScreenLemmas.{All-in_order}
use Rattle.region.specs.CopyOrderLemmas.{canonical-in-order}
use Rattle.region.specs.CopyPlaceLemmas.{covers-in_order, covered-on-screen, rects-on-screen, sources-on-screen, source-spared}
use Rattle.framebuffer.specs.Picture.{colour_at}
use Rattle.framebuffer.specs.Moves.{between, colour_moved, is_among}

by_lt : {P : Type 0} (a b : ℕ) → (a < b → P) → (b ≤ a → P) → P
by_lt a b less not_less = elim (leb_tells b a) [ inl h ↦ not_less h.1 | inr h ↦ less h.1 ]

in_parts : (r : Rect) (x y : ℤ) → in_rect r x y ≡ (between r.x1 x r.x2 && between r.y1 y r.y2)
in_parts r x y = four (int_le r.x1 x) (int_lt x r.x2) (int_le r.y1 y) (int_lt y r.y2)
  where
    four : (a b c d : Bool) → (a && b && c && d) ≡ ((a && b) && (c && d))
    four a b c d = grind (arith)

on_parts : (w h : ℕ) (x y : ℤ) → on_screen w h x y ≡ (between (pos 0) x (pos w) && between (pos 0) y (pos h))
on_parts w h x y = in_parts (record { x1 = pos 0; y1 = pos 0; x2 = pos w; y2 = pos h }) x y

-- where a place is in a rectangle, its source is on the screen
source_there : (w h : ℕ) (by : ℤ × ℤ) (pieces : List Rect) (x y : ℤ) → All (λ r. IsOnScreen w h (source_rect by r)) pieces → covers pieces x y ≡ true → on_screen w h (x -ℤ by.0) (y -ℤ by.1) ≡ true
source_there w h by pieces x y all there =
    let found = Any-from_list_any (λ r. in_rect r x y) pieces there in
    let P : Rect → Type 0 = λ r. IsOnScreen w h (source_rect by r) in
    here found.1 (subst P found.3 (all found.0 found.1 found.2)) found.4
  where
    shifted : (a b d z : ℤ) (n : ℕ) → pos 0 ≤ℤ (a -ℤ d) → (b -ℤ d) ≤ℤ pos n → between a z b ≡ true → between (pos 0) (z -ℤ d) (pos n) ≡ true
    shifted a b d z n low high e = grind (arith, ints)

    apart : (a b : Bool) → (a && b) ≡ true → (a ≡ true) × (b ≡ true)
    apart true b h = (refl, h)
    apart false b h = absurd cc

    here : (r : Rect) → IsOnScreen w h (source_rect by r) → in_rect r x y ≡ true → on_screen w h (x -ℤ by.0) (y -ℤ by.1) ≡ true
    here r s e =
        let parts = apart (between r.x1 x r.x2) (between r.y1 y r.y2) (sym (in_parts r x y) ∙ e) in
        on_parts w h (x -ℤ by.0) (y -ℤ by.1) ∙ ap (λ b. b && between (pos 0) (y -ℤ by.1) (pos h)) (shifted r.x1 r.x2 by.0 x w s.left s.right parts.0) ∙ shifted r.y1 r.y2 by.1 y h s.top s.bottom parts.1

on_rows : (w h : ℕ) (x y : ℤ) → on_screen w h x y ≡ true → (between (pos 0) x (pos w) ≡ true) × (between (pos 0) y (pos h) ≡ true)
on_rows w h x y e = (grind (arith, ints), grind (arith, ints))

-- a place on the screen
on_it : (w h : ℕ) (x y : ℤ) → on_screen w h x y ≡ true → (x ≡ pos (nat_abs x)) × (y ≡ pos (nat_abs y)) × (nat_abs x < w) × (nat_abs y < h)
on_it w h (pos x) (pos y) e = (refl, refl, grind (arith, nat_tests), grind (arith, nat_tests))
on_it w h (pos x) (negsuc y) e = let none : false ≡ true = (on_rows w h (pos x) (negsuc y) e).1 in absurd cc
on_it w h (negsuc x) y e = absurd cc

-- ---- a row of a rectangle

-- a rectangle's columns are those from a to before b, and its row y has its source in row t, from column s on
pub record IsRowOf (w h : ℕ) (r : Rect) (by : ℤ × ℤ) (y a b s t : ℕ) : Type 0 where
  pub left : r.x1 ≡ pos a
  pub right : r.x2 ≡ pos b
  pub top : r.y1 ≤ℤ pos y
  pub bottom : pos y <ℤ r.y2
  pub some : a < b
  pub wide : b ≤ w
  pub high : y < h
  pub source : r.x1 -ℤ by.0 ≡ pos s
  pub source_row : pos y -ℤ by.1 ≡ pos t
  pub source_wide : s + (b - a) ≤ w
  pub source_high : t < h

pub row_of : (w h : ℕ) (r : Rect) (by : ℤ × ℤ) (y : ℕ) → IsOnScreen w h r → IsOnScreen w h (source_rect by r) → r.y1 ≤ℤ pos y → pos y <ℤ r.y2
    → IsRowOf w h r by y (nat_abs r.x1) (nat_abs r.x2) (nat_abs (r.x1 -ℤ by.0)) (nat_abs (pos y -ℤ by.1))
row_of w h r by y inside source top bottom = record {
  left = sym (number r.x1 inside.left);
  right = sym (number r.x2 (omega (arith, ints, inside.left, inside.columns)));
  top = top;
  bottom = bottom;
  some = omega (arith, ints, inside.left, inside.columns);
  wide = omega (arith, ints, inside.left, inside.columns, inside.right);
  high = omega (arith, ints, bottom, inside.bottom);
  source = sym (number (r.x1 -ℤ by.0) source.left);
  source_row = sym (number (pos y -ℤ by.1) (omega (arith, ints, top, source.top)));
  source_wide = omega (arith, ints, inside.left, inside.columns, source.left, source.right);
  source_high = omega (arith, ints, top, bottom, source.top, source.bottom);
}

pub columns_of : (w h : ℕ) (r : Rect) → IsOnScreen w h r → nat_abs (r.x2 -ℤ r.x1) ≡ nat_abs r.x2 - nat_abs r.x1
columns_of w h r inside = omega (arith, ints, inside.left, inside.columns)

-- places of a row of so many are in the picture
pub row_room : (w h y x n : ℕ) (picture : List ℕ) → length picture ≡ w * h → y < h → x + n ≤ w → y * w + x + n ≤ length picture
row_room w h y x n picture size below wide = let up : (y + 1) * w ≤ h * w = mul-le-mul_right w (omega arith) in omega (arith, up, size, wide)

-- whether a number is one of n from a number on
abbrev pub is_between : ℕ → ℕ → ℕ → Bool
is_between to n k = nat_le to k && nat_lt k (to + n)

module _ (w h : ℕ) (r : Rect) (by : ℤ × ℤ) (y a b s t : ℕ) (old : List ℕ) (is : IsRowOf w h r by y a b s t) where
  -- in another row no place is copied
  elsewhere : (k x : ℕ) → x < w → (k ≡ y → ⊥) → is_between (y * w + a) (b - a) (k * w + x) ≡ false
  elsewhere k x left other = by_lt k y
      (λ above. let up : (k + 1) * w ≤ y * w = mul-le-mul_right w (omega arith) in before (y * w + a) (k * w + x) (omega (arith, up, left)))
      (λ not_above. by_lt y k
      (λ below. let up : (y + 1) * w ≤ k * w = mul-le-mul_right w (omega arith) in behind (y * w + a) (k * w + x) (let some = is.some in let wide = is.wide in omega (arith, up)))
      (λ not_below. absurd (other (omega arith))))
    where
      before : (to j : ℕ) → j < to → is_between to (b - a) j ≡ false
      before to j less = grind (arith, nat_tests)

      behind : (to j : ℕ) → to + (b - a) ≤ j → is_between to (b - a) j ≡ false
      behind to j more = grind (arith, nat_tests)

  -- in this row those of the rectangle are
  here : (x : ℕ) → covers (r ∷ []) (pos x) (pos y) ≡ is_between (y * w + a) (b - a) (y * w + x)
  here x = rw (is.left, is.right) (same (y * w) x is.some is.top is.bottom)
    where
      same : (m x : ℕ) → a < b → r.y1 ≤ℤ pos y → pos y <ℤ r.y2 → (in_rect (record r { x1 = pos a; x2 = pos b }) (pos x) (pos y) || false) ≡ is_between (m + a) (b - a) (m + x)
      same m x some top bottom = grind (arith, ints, nat_tests)

  inside : (m x : ℕ) → is_between (m + a) (b - a) (m + x) ≡ true → (a ≤ x) × (x < b)
  inside m x e = (grind (arith, nat_tests), grind (arith, nat_tests))

  -- and a place's source is as far from the source's first
  source_colour : (x : ℕ) → a ≤ x → x < b → colour_at w h old (pos x -ℤ by.0) (pos y -ℤ by.1) ≡ get_or old (t * w + s + (y * w + x - (y * w + a))) 0
  source_colour x left right =
      let first = is.source in
      let origin = is.left in
      let wide = is.source_wide in
      let column : pos x -ℤ by.0 ≡ pos (s + (x - a)) = farther (r.x1) by.0 x origin first left in
      ap (λ z. colour_at w h old z (pos y -ℤ by.1)) column
      ∙ ap (λ z. colour_at w h old (pos (s + (x - a))) z) is.source_row
      ∙ ap (λ v. cond v (get_or old (t * w + (s + (x - a))) 0) 0) (on_screen_at (s + (x - a)) (omega arith) is.source_high)
      ∙ ap (λ n. get_or old n 0) (same_place (y * w) (t * w) x left)
    where
      farther : (x1 dx : ℤ) (x : ℕ) → x1 ≡ pos a → x1 -ℤ dx ≡ pos s → a ≤ x → pos x -ℤ dx ≡ pos (s + (x - a))
      farther x1 dx x e f above = omega (arith, ints, e, f, above)

      on_screen_at : (u : ℕ) → u < w → t < h → on_screen w h (pos u) (pos t) ≡ true
      on_screen_at u below high = grind (arith, nat_tests)

      same_place : (m n x : ℕ) → a ≤ x → n + (s + (x - a)) ≡ n + s + (m + x - (m + a))
      same_place m n x left = omega arith

  -- the row's places in the rectangle have their colours, and no others changed
  pub row_copied : (new : List ℕ) → ((k : ℕ) → get_or new k 0 ≡ cond (is_between (y * w + a) (b - a) k) (get_or old (t * w + s + (k - (y * w + a))) 0) (get_or old k 0))
      → (k x : ℕ) → k < h → x < w → get_or new (k * w + x) 0 ≡ colour_moved w h (r ∷ []) by (λ row. row == y) old k x
  row_copied new done k x high left = done (k * w + x) ∙ go (k == y) refl
    where
      by_test : (v : Bool) → is_between (y * w + a) (b - a) (y * w + x) ≡ v → cond v (get_or old (t * w + s + (y * w + x - (y * w + a))) 0) (get_or old (y * w + x) 0) ≡ cond v (colour_at w h old (pos x -ℤ by.0) (pos y -ℤ by.1)) (get_or old (y * w + x) 0)
      by_test true e = let there = inside (y * w) x e in sym (source_colour x there.0 there.1)
      by_test false e = refl

      go : (e : Bool) → (k == y) ≡ e → cond (is_between (y * w + a) (b - a) (k * w + x)) (get_or old (t * w + s + (k * w + x - (y * w + a))) 0) (get_or old (k * w + x) 0)
          ≡ cond (e && covers (r ∷ []) (pos x) (pos k)) (colour_at w h old (pos x -ℤ by.0) (pos k -ℤ by.1)) (get_or old (k * w + x) 0)
      go false e = ap (λ v. cond v (get_or old (t * w + s + (k * w + x - (y * w + a))) 0) (get_or old (k * w + x) 0)) (elsewhere k x left (λ same. let none : (k == y) ≡ true = (Decides-eqb k y).1 same in absurd cc))
      go true e =
          let same : k ≡ y = (Decides-eqb k y).0 e in
          rw same (by_test (is_between (y * w + a) (b - a) (y * w + x)) refl
          ∙ sym (ap (λ v. cond v (colour_at w h old (pos x -ℤ by.0) (pos y -ℤ by.1)) (get_or old (y * w + x) 0)) (here x)))

-- ---- all rows of a rectangle

and_false : (a : Bool) → (a && false) ≡ false
and_false true = refl
and_false false = refl

-- a place's row is one of its rectangle's
row_in : (r : Rect) (x y : ℤ) → covers (r ∷ []) x y ≡ true → between r.y1 y r.y2 ≡ true
row_in r x y e = grind (arith, ints)

-- the rows done, and then one more, whose source isn't done
pub rows_more : (w h : ℕ) (pieces : List Rect) (by : ℤ × ℤ) (old now new : List ℕ) (down : Bool) (n y : ℕ) → down ≡ int_lt (pos 0) by.1 → y < h → All (λ r. IsOnScreen w h (source_rect by r)) pieces
    → ((k : ℕ) → k < h → is_among down h (n + 1) k ≡ (is_among down h n k || (k == y))) → is_among down h n y ≡ false
    → ((k x : ℕ) → k < h → x < w → get_or now (k * w + x) 0 ≡ colour_moved w h pieces by (is_among down h n) old k x)
    → ((k x : ℕ) → k < h → x < w → get_or new (k * w + x) 0 ≡ colour_moved w h pieces by (λ r. r == y) now k x)
    → (k x : ℕ) → k < h → x < w → get_or new (k * w + x) 0 ≡ colour_moved w h pieces by (is_among down h (n + 1)) old k x
rows_more w h pieces by old now new down n y dir below all next first done one k x high left =
    one k x high left ∙ go (k == y) refl
    ∙ sym (ap (λ b. cond (b && covers pieces (pos x) (pos k)) (colour_at w h old (pos x -ℤ by.0) (pos k -ℤ by.1)) (get_or old (k * w + x) 0)) (next k high))
  where
    down_before : (k s : ℕ) (dy : ℤ) → true ≡ int_lt (pos 0) dy → pos s ≡ pos k -ℤ dy → s < k
    down_before k s dy e is = grind (arith, ints)

    up_before : (k s : ℕ) (dy : ℤ) → false ≡ int_lt (pos 0) dy → pos s ≡ pos k -ℤ dy → k ≤ s
    up_before k s dy e is = grind (arith, ints)

    later : (d : Bool) (k s : ℕ) → d ≡ int_lt (pos 0) by.1 → pos s ≡ pos k -ℤ by.1 → is_among d h n k ≡ false → is_among d h n s ≡ false
    later true k s e is un = let less = down_before k s by.1 e is in grind (arith, nat_tests, less)
    later false k s e is un = let more = up_before k s by.1 e is in grind (arith, nat_tests, more)

    not_done : (r c : ℕ) → r < h → c < w → is_among down h n r ≡ false → get_or now (r * w + c) 0 ≡ get_or old (r * w + c) 0
    not_done r c row column un = done r c row column ∙ ap (λ b. cond (b && covers pieces (pos c) (pos r)) (colour_at w h old (pos c -ℤ by.0) (pos r -ℤ by.1)) (get_or old (r * w + c) 0)) un

    from_old : (b : Bool) → covers pieces (pos x) (pos y) ≡ b → cond b (colour_at w h now (pos x -ℤ by.0) (pos y -ℤ by.1)) (get_or now (y * w + x) 0) ≡ cond b (colour_at w h old (pos x -ℤ by.0) (pos y -ℤ by.1)) (get_or old (y * w + x) 0)
    from_old false e = not_done y x below left first
    from_old true e =
        let on = source_there w h by pieces (pos x) (pos y) all e in
        let place = on_it w h (pos x -ℤ by.0) (pos y -ℤ by.1) on in
        ap (λ z. cond (on_screen w h (pos x -ℤ by.0) (pos y -ℤ by.1)) z 0) (not_done (nat_abs (pos y -ℤ by.1)) (nat_abs (pos x -ℤ by.0)) place.3 place.2 (later down y (nat_abs (pos y -ℤ by.1)) dir (sym place.1) first))

    or_false : (b : Bool) → (b || false) ≡ b
    or_false true = refl
    or_false false = refl

    or_true : (b : Bool) → (b || true) ≡ true
    or_true true = refl
    or_true false = refl

    go : (b : Bool) → (k == y) ≡ b → cond (b && covers pieces (pos x) (pos k)) (colour_at w h now (pos x -ℤ by.0) (pos k -ℤ by.1)) (get_or now (k * w + x) 0)
        ≡ cond ((is_among down h n k || b) && covers pieces (pos x) (pos k)) (colour_at w h old (pos x -ℤ by.0) (pos k -ℤ by.1)) (get_or old (k * w + x) 0)
    go false e = done k x high left ∙ sym (ap (λ b. cond (b && covers pieces (pos x) (pos k)) (colour_at w h old (pos x -ℤ by.0) (pos k -ℤ by.1)) (get_or old (k * w + x) 0)) (or_false (is_among down h n k)))
    go true e =
        let same : k ≡ y = (Decides-eqb k y).0 e in
        ap (λ r. cond (covers pieces (pos x) (pos r)) (colour_at w h now (pos x -ℤ by.0) (pos r -ℤ by.1)) (get_or now (r * w + x) 0)) same
        ∙ from_old (covers pieces (pos x) (pos y)) refl
        ∙ sym (ap (λ b. cond (b && covers pieces (pos x) (pos k)) (colour_at w h old (pos x -ℤ by.0) (pos k -ℤ by.1)) (get_or old (k * w + x) 0)) (or_true (is_among down h n k))
        ∙ ap (λ r. cond (covers pieces (pos x) (pos r)) (colour_at w h old (pos x -ℤ by.0) (pos r -ℤ by.1)) (get_or old (r * w + x) 0)) same)

pub one_source : (w h : ℕ) (by : ℤ × ℤ) (r : Rect) → IsOnScreen w h (source_rect by r) → All (λ q. IsOnScreen w h (source_rect by q)) (r ∷ [])
one_source w h by r inside = λ k d below. one k d below
  where
    one : (k : ℕ) (d : Rect) → k < 1 → IsOnScreen w h (source_rect by (get_or (r ∷ []) k d))
    one k d below = let first : k ≡ 0 = omega arith in rw first inside

-- before the first of a rectangle's rows nothing is moved
pub none_moved : (w h : ℕ) (r : Rect) (by : ℤ × ℤ) (old : List ℕ) (down : Bool) (n k x : ℕ) → k < h → ((j : ℕ) → j < h → between r.y1 (pos j) r.y2 ≡ true → is_among down h n j ≡ false)
    → get_or old (k * w + x) 0 ≡ colour_moved w h (r ∷ []) by (is_among down h n) old k x
none_moved w h r by old down n k x below none = sym (ap (λ b. cond b (colour_at w h old (pos x -ℤ by.0) (pos k -ℤ by.1)) (get_or old (k * w + x) 0)) (go (covers (r ∷ []) (pos x) (pos k)) refl))
  where
    go : (b : Bool) → covers (r ∷ []) (pos x) (pos k) ≡ b → (is_among down h n k && b) ≡ false
    go false e = and_false (is_among down h n k)
    go true e = ap (λ b. b && true) (none k below (row_in r (pos x) (pos k) e))

-- and behind the last all of it is
pub all_moved : (w h : ℕ) (r : Rect) (by : ℤ × ℤ) (old now : List ℕ) (down : Bool) (n k x : ℕ) → k < h → ((j : ℕ) → j < h → between r.y1 (pos j) r.y2 ≡ true → is_among down h n j ≡ true)
    → get_or now (k * w + x) 0 ≡ colour_moved w h (r ∷ []) by (is_among down h n) old k x → get_or now (k * w + x) 0 ≡ colour_moved w h (r ∷ []) by (λ row. true) old k x
all_moved w h r by old now down n k x below all done = done ∙ ap (λ b. cond b (colour_at w h old (pos x -ℤ by.0) (pos k -ℤ by.1)) (get_or old (k * w + x) 0)) (go (covers (r ∷ []) (pos x) (pos k)) refl)
  where
    go : (b : Bool) → covers (r ∷ []) (pos x) (pos k) ≡ b → (is_among down h n k && b) ≡ b
    go false e = and_false (is_among down h n k)
    go true e = ap (λ b. b && true) (all k below (row_in r (pos x) (pos k) e))

-- ---- all rectangles

-- the rectangles done, and then one more, whose source none of them is moved over
pub pieces_more : (w h : ℕ) (pieces : List Rect) (by : ℤ × ℤ) (i : ℕ) (d : Rect) (old now new : List ℕ) → InOrder by pieces → i < length pieces → All (λ r. IsOnScreen w h (source_rect by r)) pieces
    → ((k x : ℕ) → k < h → x < w → get_or now (k * w + x) 0 ≡ colour_moved w h (take i pieces) by (λ row. true) old k x)
    → ((k x : ℕ) → k < h → x < w → get_or new (k * w + x) 0 ≡ colour_moved w h (get_or pieces i d ∷ []) by (λ row. true) now k x)
    → (k x : ℕ) → k < h → x < w → get_or new (k * w + x) 0 ≡ colour_moved w h (take (i + 1) pieces) by (λ row. true) old k x
pieces_more w h pieces by i d old now new ordered below all done one k x high left =
    one k x high left ∙ go (in_rect (get_or pieces i d) (pos x) (pos k)) refl
    ∙ sym (ap (λ b. cond b (colour_at w h old (pos x -ℤ by.0) (pos k -ℤ by.1)) (get_or old (k * w + x) 0)) (list_any_more (λ q. in_rect q (pos x) (pos k)) pieces i d below))
  where
    or_false : (b : Bool) → (b || false) ≡ b
    or_false true = refl
    or_false false = refl

    or_true : (b : Bool) → (b || true) ≡ true
    or_true true = refl
    or_true false = refl

    from_old : in_rect (get_or pieces i d) (pos x) (pos k) ≡ true → colour_at w h now (pos x -ℤ by.0) (pos k -ℤ by.1) ≡ colour_at w h old (pos x -ℤ by.0) (pos k -ℤ by.1)
    from_old e =
        let on = source_there w h by pieces (pos x) (pos k) all (list_any_at (λ q. in_rect q (pos x) (pos k)) pieces i d below e) in
        let place = on_it w h (pos x -ℤ by.0) (pos k -ℤ by.1) on in
        let column = nat_abs (pos x -ℤ by.0) in
        let row = nat_abs (pos k -ℤ by.1) in
        let spared : covers (take i pieces) (pos column) (pos row) ≡ false =
        ap (λ z. covers (take i pieces) z (pos row)) (sym place.0) ∙ ap (λ z. covers (take i pieces) (pos x -ℤ by.0) z) (sym place.1) ∙ source-spared by pieces i d (pos x) (pos k) ordered below e in
        ap (λ z. cond (on_screen w h (pos x -ℤ by.0) (pos k -ℤ by.1)) z 0)
        (done row column place.3 place.2 ∙ ap (λ b. cond b (colour_at w h old (pos column -ℤ by.0) (pos row -ℤ by.1)) (get_or old (row * w + column) 0)) spared)

    go : (b : Bool) → in_rect (get_or pieces i d) (pos x) (pos k) ≡ b → cond (b || false) (colour_at w h now (pos x -ℤ by.0) (pos k -ℤ by.1)) (get_or now (k * w + x) 0)
        ≡ cond (covers (take i pieces) (pos x) (pos k) || b) (colour_at w h old (pos x -ℤ by.0) (pos k -ℤ by.1)) (get_or old (k * w + x) 0)
    go true e = from_old e ∙ sym (ap (λ b. cond b (colour_at w h old (pos x -ℤ by.0) (pos k -ℤ by.1)) (get_or old (k * w + x) 0)) (or_true (covers (take i pieces) (pos x) (pos k))))
    go false e = done k x high left ∙ sym (ap (λ b. cond b (colour_at w h old (pos x -ℤ by.0) (pos k -ℤ by.1)) (get_or old (k * w + x) 0)) (or_false (covers (take i pieces) (pos x) (pos k))))

-- ---- the order of the rectangles

-- a canonical list of the places of rectangles, in the order for copies
pub record AreOrdered (by : ℤ × ℤ) (pieces region rects : List Rect) : Type 0 where
  pub canonical : IsCanonical region
  pub places : (x y : ℤ) → covers region x y ≡ covers pieces x y
  pub same : rects ≡ order by.0 by.1 region

module _ (by : ℤ × ℤ) (pieces region rects : List Rect) (are : AreOrdered by pieces region rects) where
  pub ordered-places : (x y : ℤ) → covers rects x y ≡ covers pieces x y
  ordered-places x y = ap (λ (rs : List Rect). covers rs x y) are.same ∙ covers-in_order (int_lt (pos 0) by.0) (int_lt (pos 0) by.1) region x y ∙ are.places x y

  pub ordered-inside : (w h : ℕ) → All (IsOnScreen w h) pieces → All (IsOnScreen w h) rects
  ordered-inside w h inside =
      subst (All (IsOnScreen w h)) (sym are.same) (All-in_order (IsOnScreen w h) (int_lt (pos 0) by.0) (int_lt (pos 0) by.1) region
      (rects-on-screen w h region are.canonical (λ x y there. covered-on-screen w h pieces x y inside (sym (are.places x y) ∙ there))))

  pub ordered-sources : (w h : ℕ) → All (λ r. IsOnScreen w h (source_rect by r)) pieces → All (λ r. IsOnScreen w h (source_rect by r)) rects
  ordered-sources w h sources =
      let P : Rect → Type 0 = λ r. IsOnScreen w h (source_rect by r) in
      subst (All P) (sym are.same) (All-in_order P (int_lt (pos 0) by.0) (int_lt (pos 0) by.1) region
      (sources-on-screen w h by region are.canonical (λ x y there. source_there w h by pieces x y sources (sym (are.places x y) ∙ there))))

  pub ordered-order : InOrder by rects
  ordered-order = subst (InOrder by) (sym are.same) (canonical-in-order region are.canonical by)
