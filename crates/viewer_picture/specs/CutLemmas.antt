-- What is shown once an update is read: the copies all at once, then the pixels.
use Rattle.std.proofs.Common.{◌≡◌, ℕ, ◌+◌, ◌-◌, ◌*◌, ◌<◌, ◌≤◌, Bool, true, false, cond, not, ◌&&◌, ◌||◌, List, [], ◌∷◌, get_or, Option, Some, All, refl, sym, ap, ◌∙◌, arith}
use Rattle.std.specs.Prelude.{ℤ, pos, ◌+ℤ◌, ◌-ℤ◌, ◌<ℤ◌, ◌≤ℤ◌, nat_abs, int_lt}
use Rattle.std.specs.List.{AllByRecursion}
use Rattle.std.proofs.lemmas.Int.{ints}
use Rattle.std.proofs.lemmas.Bool.{and_parts}
use Rattle.std.proofs.lemmas.Bool.Decides.{nat_tests}
use Rattle.std.proofs.lemmas.List.Folds.{list_any_at}
use Rattle.std.proofs.lemmas.List.Elements.{recursion_from_All}
use Rattle.pixel_translate.specs.declared.PixelFormat.{PixelFormat}
use Rattle.pixel_translate.specs.Pixel.{pixel}
use Rattle.region.specs.declared.Rect.{Rect}
use Rattle.region.specs.Region.{in_rect, covers, on_screen, rects_of, order}
use Rattle.region.specs.CanonicalLemmas.{rects_of_covers-holds}
use Rattle.region.specs.Copies.{InOrder}
use Rattle.region.specs.ScreenLemmas.{All-in_order}
use Rattle.region.specs.CopyOrderLemmas.{copies-in-order, covers-take, in-order-take}
use Rattle.encode_raw.specs.Reading.{Dot, Shown, patched, shown_after_copy}
use Rattle.encode_raw.specs.Claims.{pixels_of as colour_pixels}
use Rattle.copy_schedule.specs.declared.Mark.{Mark}
use Rattle.copy_schedule.specs.declared.Mark.TheVariants.{Clean, Copied, Owed}
use Rattle.region.specs.Places.{by_place, IsOnScreen, source_rect}
use Rattle.copy_schedule.specs.Marks.{Marks, is_clean, is_copied, mark_at, asked_at, wanted, copyable, copies_of, pixels_of, after_sending}
use Rattle.region.specs.PlaceLemmas.{value_on, is_place}
use Rattle.copy_schedule.specs.CutLemmas.{copies_on_screen, sources_inside, pixels_on_screen}
use Rattle.framebuffer.specs.declared.blocks.Block.{Block}
use Rattle.framebuffer.specs.Blocks.{block_rect}
use Rattle.updates.specs.Areas.{area_of}
use Rattle.framebuffer.specs.Picture.{colour_at, colours_of}
use Rattle.viewer_picture.specs.AreaLemmas.{area_is}
use Rattle.viewer_picture.specs.Pictures.{dot_at, ShowsColour}
use Rattle.viewer_picture.specs.MessageLemmas.{changed}
use Rattle.viewer_picture.specs.MarkLemmas.{Shows, tells, mark-is}

-- ---- rectangles of the screen are blocks

pub record Placed (r : Rect) : Type 0 where
  pub block : Block
  pub is : r ≡ block_rect block

placed : (w h : ℕ) (r : Rect) → IsOnScreen w h r → Placed r
placed w h r on =
    let rect : ℤ → ℤ → ℤ → ℤ → Rect = λ a b c d. record { x1 = a; y1 = b; x2 = c; y2 = d } in
    let left = number r.x1 on.left in
    let top = number r.y1 on.top in
    let right = end r.x1 r.x2 on.left on.columns in
    let bottom = end r.y1 r.y2 on.top on.rows in
    record {
      block = record { left = nat_abs r.x1; top = nat_abs r.y1; columns = nat_abs (r.x2 -ℤ r.x1); rows = nat_abs (r.y2 -ℤ r.y1) };
      is = ap (λ a. rect a r.y1 r.x2 r.y2) left ∙ ap (λ b. rect (pos (nat_abs r.x1)) b r.x2 r.y2) top
          ∙ ap (λ c. rect (pos (nat_abs r.x1)) (pos (nat_abs r.y1)) c r.y2) right ∙ ap (rect (pos (nat_abs r.x1)) (pos (nat_abs r.y1)) (pos (nat_abs r.x1 + nat_abs (r.x2 -ℤ r.x1)))) bottom;
    }
  where
    number : (a : ℤ) → pos 0 ≤ℤ a → a ≡ pos (nat_abs a)
    number a low = omega (arith, ints)

    end : (a b : ℤ) → pos 0 ≤ℤ a → a <ℤ b → b ≡ pos (nat_abs a + nat_abs (b -ℤ a))
    end a b low wide = omega (arith, ints)

-- a place by its numbers
place-is : (w h : ℕ) (x y : ℤ) → on_screen w h x y ≡ true → (x ≡ pos (nat_abs x)) × (y ≡ pos (nat_abs y))
place-is w h x y on = let p = is_place w h x y on in (number x p.left, number y p.top)
  where
    number : (a : ℤ) → pos 0 ≤ℤ a → a ≡ pos (nat_abs a)
    number a low = omega (arith, ints)

-- ---- copies

unfoldable pub copy_of : ℤ × ℤ → Rect → Shown → Shown
copy_of by r = shown_after_copy (area_of r) (nat_abs (r.x1 -ℤ by.0)) (nat_abs (r.y1 -ℤ by.1))

abbrev if_in : Bool → Option Dot → Option Dot → Option Dot
if_in b x y = cond b x y

copy-block : (b : Block) (by : ℤ × ℤ) (sx sy : ℕ) (shown : Shown) (x y : ℕ) → pos sx ≡ pos b.left -ℤ by.0 → pos sy ≡ pos b.top -ℤ by.1
    → shown_after_copy (record { x = b.left; y = b.top; w = b.columns; h = b.rows }) sx sy shown x y ≡ if_in (in_rect (block_rect b) (pos x) (pos y)) (shown (nat_abs (pos x -ℤ by.0)) (nat_abs (pos y -ℤ by.1))) (shown x y)
copy-block b by sx sy shown x y is-x is-y = go (in_rect (block_rect b) (pos x) (pos y)) refl
  where
    low : (b : Block) (x y : ℕ) → in_rect (block_rect b) (pos x) (pos y) ≡ true → (b.left ≤ x) × (b.top ≤ y)
    low b x y e = (grind (arith, nat_tests), grind (arith, nat_tests))

    from : (left x s : ℕ) (d : ℤ) → pos s ≡ pos left -ℤ d → left ≤ x → x - left + s ≡ nat_abs (pos x -ℤ d)
    from left x s d e h = let same : pos x -ℤ d ≡ pos (x - left + s) = omega (arith, ints) in sym (ap nat_abs same)

    go : (t : Bool) → in_rect (block_rect b) (pos x) (pos y) ≡ t → if_in t (shown (x - b.left + sx) (y - b.top + sy)) (shown x y) ≡ if_in t (shown (nat_abs (pos x -ℤ by.0)) (nat_abs (pos y -ℤ by.1))) (shown x y)
    go false e = refl
    go true e = let at = low b x y e in ap (λ n. shown n (y - b.top + sy)) (from b.left x sx by.0 is-x at.0) ∙ ap (shown (nat_abs (pos x -ℤ by.0))) (from b.top y sy by.1 is-y at.1)

-- one copy: a place of the rectangle shows what its source did, another one what it did
copy-at : (w h : ℕ) (by : ℤ × ℤ) (r : Rect) → IsOnScreen w h r → on_screen w h (r.x1 -ℤ by.0) (r.y1 -ℤ by.1) ≡ true → (shown : Shown) (x y : ℤ) → on_screen w h x y ≡ true
    → dot_at (copy_of by r shown) x y ≡ if_in (in_rect r x y) (dot_at shown (x -ℤ by.0) (y -ℤ by.1)) (dot_at shown x y)
unfolding copy_of
copy-at w h by r on source shown x y there =
    let p = placed w h r on in
    let at = place-is w h x y there in
    let from = place-is w h (r.x1 -ℤ by.0) (r.y1 -ℤ by.1) source in
    let sx : ℕ = nat_abs (r.x1 -ℤ by.0) in
    let sy : ℕ = nat_abs (r.y1 -ℤ by.1) in
    let X : ℕ = nat_abs x in
    let Y : ℕ = nat_abs y in
    ap (λ a. shown_after_copy a sx sy shown X Y) (ap area_of p.is ∙ area_is p.block)
    ∙ copy-block p.block by sx sy shown X Y (sym from.0 ∙ ap (λ (q : Rect). q.x1 -ℤ by.0) p.is) (sym from.1 ∙ ap (λ (q : Rect). q.y1 -ℤ by.1) p.is)
    ∙ ap (λ (q : Rect). if_in (in_rect q (pos X) (pos Y)) (shown (nat_abs (pos X -ℤ by.0)) (nat_abs (pos Y -ℤ by.1))) (shown X Y)) (sym p.is)
    ∙ ap (λ a. if_in (in_rect r a (pos Y)) (shown (nat_abs (a -ℤ by.0)) (nat_abs (pos Y -ℤ by.1))) (shown X Y)) (sym at.0)
    ∙ ap (λ b. if_in (in_rect r x b) (shown (nat_abs (x -ℤ by.0)) (nat_abs (b -ℤ by.1))) (shown X Y)) (sym at.1)

corner : (r : Rect) → r.x1 <ℤ r.x2 → r.y1 <ℤ r.y2 → in_rect r r.x1 r.y1 ≡ true
corner r wide high = grind (arith, ints)

or-left : (a b : Bool) → a ≡ true → (a || b) ≡ true
or-left true b e = refl
or-left false b e = absurd cc

or-right : (a b : Bool) → b ≡ true → (a || b) ≡ true
or-right true b e = refl
or-right false b e = e

-- copies in order are all as if done at once
pub copies-at : (w h : ℕ) (by : ℤ × ℤ) (rs : List Rect) → AllByRecursion (IsOnScreen w h) rs → InOrder by rs
    → ((x y : ℤ) → covers rs x y ≡ true → on_screen w h (x -ℤ by.0) (y -ℤ by.1) ≡ true) → (shown : Shown) (x y : ℤ) → on_screen w h x y ≡ true
    → dot_at (changed (copy_of by) rs shown) x y ≡ if_in (covers rs x y) (dot_at shown (x -ℤ by.0) (y -ℤ by.1)) (dot_at shown x y)
copies-at w h by [] on ordered sources shown x y there = refl
copies-at w h by (r ∷ rs) on ordered sources shown x y there =
    copies-at w h by rs on.1 ordered.1 later first x y there ∙ go (covers rs x y) refl
  where
    later : (x y : ℤ) → covers rs x y ≡ true → on_screen w h (x -ℤ by.0) (y -ℤ by.1) ≡ true
    later x y e = sources x y (or-right (in_rect r x y) (covers rs x y) e)

    first : Shown
    first = copy_of by r shown

    here : on_screen w h (r.x1 -ℤ by.0) (r.y1 -ℤ by.1) ≡ true
    here = sources r.x1 r.y1 (or-left (in_rect r r.x1 r.y1) (covers rs r.x1 r.y1) (corner r on.0.columns on.0.rows))

    or-false : (a : Bool) → a ≡ (a || false)
    or-false true = refl
    or-false false = refl

    or-true : (a : Bool) → true ≡ (a || true)
    or-true true = refl
    or-true false = refl

    go : (t : Bool) → covers rs x y ≡ t → if_in t (dot_at first (x -ℤ by.0) (y -ℤ by.1)) (dot_at first x y) ≡ if_in (in_rect r x y || t) (dot_at shown (x -ℤ by.0) (y -ℤ by.1)) (dot_at shown x y)
    go true e =
        copy-at w h by r on.0 here shown (x -ℤ by.0) (y -ℤ by.1) (later x y e)
        ∙ ap (λ b. if_in b (dot_at shown ((x -ℤ by.0) -ℤ by.0) ((y -ℤ by.1) -ℤ by.1)) (dot_at shown (x -ℤ by.0) (y -ℤ by.1))) (ordered.0 x y e)
        ∙ ap (λ b. if_in b (dot_at shown (x -ℤ by.0) (y -ℤ by.1)) (dot_at shown x y)) (or-true (in_rect r x y))
    go false e = copy-at w h by r on.0 here shown x y there ∙ ap (λ b. if_in b (dot_at shown (x -ℤ by.0) (y -ℤ by.1)) (dot_at shown x y)) (or-false (in_rect r x y))

-- ---- pixels

abbrev pub pixel_dot : PixelFormat → ℕ → Option Dot
pixel_dot f colour = Some (record { format = f; pixel = pixel f colour })

unfoldable pub pixel_of : ℕ → ℕ → List ℕ → PixelFormat → Rect → Shown → Shown
pixel_of w h picture f r = patched f (area_of r) (colour_pixels f (area_of r).w (colours_of w h picture r))

-- the colour of a place of a block
block-colour : (columns rows : ℕ) (g : ℤ → ℤ → ℕ) (i j : ℕ) → i < columns → j < rows → get_or (by_place columns rows g) (j * columns + i) 0 ≡ g (pos i) (pos j)
block-colour columns rows g i j left top =
    let on : on_screen columns rows (pos i) (pos j) ≡ true = grind (arith, nat_tests) in
    sym (ap (λ b. cond b (get_or (by_place columns rows g) (j * columns + i) 0) 0) on) ∙ value_on 0 columns rows g (pos i) (pos j) on

pixels-block : (w h : ℕ) (picture : List ℕ) (f : PixelFormat) (b : Block) (shown : Shown) (x y : ℕ)
    → pixel_of w h picture f (block_rect b) shown x y ≡ if_in (in_rect (block_rect b) (pos x) (pos y)) (pixel_dot f (colour_at w h picture (pos x) (pos y))) (shown x y)
unfolding pixel_of
pixels-block w h picture f b shown x y =
    ap (λ a. patched f a (colour_pixels f a.w (by_place a.w a.h g)) shown x y) (area_is b) ∙ go (in_rect (block_rect b) (pos x) (pos y)) refl
  where
    g : ℤ → ℤ → ℕ
    g i j = colour_at w h picture (i +ℤ pos b.left) (j +ℤ pos b.top)

    within : (b : Block) (x y : ℕ) → in_rect (block_rect b) (pos x) (pos y) ≡ true → (b.left ≤ x) × (x < b.left + b.columns) × (b.top ≤ y) × (y < b.top + b.rows)
    within b x y e = (grind (arith, nat_tests), grind (arith, nat_tests), grind (arith, nat_tests), grind (arith, nat_tests))

    back : (x a : ℕ) → a ≤ x → pos (x - a) +ℤ pos a ≡ pos x
    back x a h = omega (arith, ints)

    go : (t : Bool) → in_rect (block_rect b) (pos x) (pos y) ≡ t
        → if_in t (pixel_dot f (get_or (by_place b.columns b.rows g) ((y - b.top) * b.columns + (x - b.left)) 0)) (shown x y) ≡ if_in t (pixel_dot f (colour_at w h picture (pos x) (pos y))) (shown x y)
    go false e = refl
    go true e =
        let at = within b x y e in
        let left : x - b.left < b.columns = (let p = at.0 in let q = at.1 in omega arith) in
        let top : y - b.top < b.rows = (let p = at.2 in let q = at.3 in omega arith) in
        ap (pixel_dot f) (block-colour b.columns b.rows g (x - b.left) (y - b.top) left top
        ∙ ap (λ a. colour_at w h picture a (pos (y - b.top) +ℤ pos b.top)) (back x b.left at.0) ∙ ap (colour_at w h picture (pos x)) (back y b.top at.2))

pixel-at : (w h : ℕ) (picture : List ℕ) (f : PixelFormat) (r : Rect) → IsOnScreen w h r → (shown : Shown) (x y : ℤ) → on_screen w h x y ≡ true
    → dot_at (pixel_of w h picture f r shown) x y ≡ if_in (in_rect r x y) (pixel_dot f (colour_at w h picture x y)) (dot_at shown x y)
pixel-at w h picture f r on shown x y there =
    let p = placed w h r on in
    let at = place-is w h x y there in
    let X : ℕ = nat_abs x in
    let Y : ℕ = nat_abs y in
    ap (λ (q : Rect). pixel_of w h picture f q shown X Y) p.is
    ∙ pixels-block w h picture f p.block shown X Y
    ∙ ap (λ (q : Rect). if_in (in_rect q (pos X) (pos Y)) (pixel_dot f (colour_at w h picture (pos X) (pos Y))) (shown X Y)) (sym p.is)
    ∙ ap (λ a. if_in (in_rect r a (pos Y)) (pixel_dot f (colour_at w h picture a (pos Y))) (shown X Y)) (sym at.0)
    ∙ ap (λ b. if_in (in_rect r x b) (pixel_dot f (colour_at w h picture x b)) (shown X Y)) (sym at.1)

pub pixels-at : (w h : ℕ) (picture : List ℕ) (f : PixelFormat) (rs : List Rect) → AllByRecursion (IsOnScreen w h) rs → (shown : Shown) (x y : ℤ) → on_screen w h x y ≡ true
    → dot_at (changed (pixel_of w h picture f) rs shown) x y ≡ if_in (covers rs x y) (pixel_dot f (colour_at w h picture x y)) (dot_at shown x y)
pixels-at w h picture f [] on shown x y there = refl
pixels-at w h picture f (r ∷ rs) on shown x y there =
    pixels-at w h picture f rs on.1 (pixel_of w h picture f r shown) x y there
    ∙ ap (λ o. if_in (covers rs x y) (pixel_dot f (colour_at w h picture x y)) o) (pixel-at w h picture f r on.0 shown x y there)
    ∙ either (covers rs x y) (in_rect r x y)
  where
    either : (a b : Bool) → if_in a (pixel_dot f (colour_at w h picture x y)) (if_in b (pixel_dot f (colour_at w h picture x y)) (dot_at shown x y)) ≡ if_in (b || a) (pixel_dot f (colour_at w h picture x y)) (dot_at shown x y)
    either true true = refl
    either true false = refl
    either false true = refl
    either false false = refl

-- ---- one update

-- a rectangle's places are among those of a list
AreOf : List Rect → Rect → Type 0
AreOf all r = (x y : ℤ) → in_rect r x y ≡ true → covers all x y ≡ true

are-of : (all rs : List Rect) → AllByRecursion (AreOf all) rs → (x y : ℤ) → covers rs x y ≡ true → covers all x y ≡ true
unfolding AreOf
are-of all [] h x y e = absurd cc
are-of all (r ∷ rs) h x y e = one (in_rect r x y) refl e (λ there. are-of all rs h.1 x y there)
  where
    one : (b : Bool) → in_rect r x y ≡ b → (b || covers rs x y) ≡ true → (covers rs x y ≡ true → covers all x y ≡ true) → covers all x y ≡ true
    one true here e others = h.0 x y here
    one false there e others = others e

own-places : (rs : List Rect) → All (AreOf rs) rs
unfolding AreOf
own-places rs = λ k d below x y here. list_any_at (λ r. in_rect r x y) rs k d below here

-- what is copied can be copied
copies-can : (limit : ℕ) (m : Marks) (x y : ℤ) → covers (copies_of limit m) x y ≡ true → copyable m x y ≡ true
copies-can limit m x y e =
    let rs : List Rect = rects_of m.width m.height (copyable m) in
    let in_rects : covers rs x y ≡ true = are-of rs (order m.offset.0 m.offset.1 rs)
    (recursion_from_All (AreOf rs) (order m.offset.0 m.offset.1 rs) (All-in_order (AreOf rs) (int_lt (pos 0) m.offset.0) (int_lt (pos 0) m.offset.1) rs (own-places rs))) x y
    (covers-take limit (order m.offset.0 m.offset.1 rs) x y e) in
    (and_parts (on_screen m.width m.height x y) (copyable m x y) (sym (rects_of_covers-holds m.width m.height (copyable m) x y) ∙ in_rects)).1

can-copied : (a b : Bool) (k : Mark) → (a && is_copied k && b) ≡ true → k ≡ Copied
can-copied true b Copied e = refl
can-copied true b Clean e = absurd cc
can-copied true b Owed e = absurd cc
can-copied false b k e = absurd cc

covered-on : (w h : ℕ) (rs : List Rect) → AllByRecursion (IsOnScreen w h) rs → (x y : ℤ) → covers rs x y ≡ true → on_screen w h x y ≡ true
covered-on w h [] on x y e = absurd cc
covered-on w h (r ∷ rs) on x y e = one (in_rect r x y) refl e (λ there. covered-on w h rs on.1 x y there)
  where
    inside : (w h : ℕ) (r : Rect) (x y : ℤ) → IsOnScreen w h r → in_rect r x y ≡ true → on_screen w h x y ≡ true
    inside w h r x y on e = grind (arith, ints)

    one : (b : Bool) → in_rect r x y ≡ b → (b || covers rs x y) ≡ true → (covers rs x y ≡ true → on_screen w h x y ≡ true) → on_screen w h x y ≡ true
    one true here e others = inside w h r x y on.0 here
    one false there e others = others e

-- each copy has a place that is copied, so what holds of those holds
pub copies-may : (P : Type 0) (limit : ℕ) (m : Marks) → ((x y : ℤ) → on_screen m.width m.height x y ≡ true → mark_at m x y ≡ Copied → P) → AllByRecursion (λ (r : Rect). P) (copies_of limit m)
unfolding AreOf
copies-may P limit m may = each (copies_of limit m) (recursion_from_All (IsOnScreen m.width m.height) (copies_of limit m) (copies_on_screen limit m)) (recursion_from_All (AreOf (copies_of limit m)) (copies_of limit m) (own-places (copies_of limit m)))
  where
    each : (rs : List Rect) → AllByRecursion (IsOnScreen m.width m.height) rs → AllByRecursion (AreOf (copies_of limit m)) rs → AllByRecursion (λ (r : Rect). P) rs
    each [] on are = tt
    each (r ∷ rs) on are =
        let here : covers (copies_of limit m) r.x1 r.y1 ≡ true = are.0 r.x1 r.y1 (corner r on.0.columns on.0.rows) in
        let there : on_screen m.width m.height r.x1 r.y1 ≡ true =
        covered-on m.width m.height (copies_of limit m) (recursion_from_All (IsOnScreen m.width m.height) (copies_of limit m) (copies_on_screen limit m)) r.x1 r.y1 here in
        (may r.x1 r.y1 there (can-copied (asked_at m r.x1 r.y1) (asked_at m (r.x1 -ℤ m.offset.0) (r.y1 -ℤ m.offset.1)) (mark_at m r.x1 r.y1) (copies-can limit m r.x1 r.y1 here)), each rs on.1 are.1)

-- ---- what is sent is within any size that holds what is asked for

-- the place of a rectangle that is last in both directions
last-in : (r : Rect) → r.x1 <ℤ r.x2 → r.y1 <ℤ r.y2 → in_rect r (r.x2 -ℤ pos 1) (r.y2 -ℤ pos 1) ≡ true
last-in r wide high = grind (arith, ints)

within : (v u w h : ℕ) (r : Rect) → IsOnScreen v u r → on_screen w h (r.x2 -ℤ pos 1) (r.y2 -ℤ pos 1) ≡ true → IsOnScreen w h r
within v u w h r on last =
    let p = is_place w h (r.x2 -ℤ pos 1) (r.y2 -ℤ pos 1) last in
    record { left = on.left; columns = on.columns; right = before r.x2 w p.right; top = on.top; rows = on.rows; bottom = before r.y2 h p.bottom }
  where
    before : (a : ℤ) (n : ℕ) → (a -ℤ pos 1) <ℤ pos n → a ≤ℤ pos n
    before a n below = omega (arith, ints)

-- a place of the pixels is asked for, and so are a place of the copies and its source
pixels-asked : (limit : ℕ) (m : Marks) (x y : ℤ) → covers (pixels_of limit m) x y ≡ true → asked_at m x y ≡ true
pixels-asked limit m x y e =
    let test : ℤ → ℤ → Bool = λ x y. wanted m x y && not (copyable m x y) in
    let in_rects : covers (rects_of m.width m.height test) x y ≡ true = covers-take limit (rects_of m.width m.height test) x y e in
    let wants = (and_parts (on_screen m.width m.height x y) (test x y) (sym (rects_of_covers-holds m.width m.height test x y) ∙ in_rects)).1 in
    (and_parts (asked_at m x y) (not (is_clean (mark_at m x y))) (and_parts (wanted m x y) (not (copyable m x y)) wants).0).0

copies-asked : (limit : ℕ) (m : Marks) (x y : ℤ) → covers (copies_of limit m) x y ≡ true → (asked_at m x y ≡ true) × (asked_at m (x -ℤ m.offset.0) (y -ℤ m.offset.1) ≡ true)
copies-asked limit m x y e = both (asked_at m x y) (is_copied (mark_at m x y)) (asked_at m (x -ℤ m.offset.0) (y -ℤ m.offset.1)) (copies-can limit m x y e)
  where
    both : (a b d : Bool) → (a && b && d) ≡ true → (a ≡ true) × (d ≡ true)
    both true true d e = (refl, e)
    both true false d e = absurd cc
    both false b d e = absurd cc

module _ (w h : ℕ) (limit : ℕ) (m : Marks) (held : (x y : ℤ) → asked_at m x y ≡ true → on_screen w h x y ≡ true) where
  each-within : (all rs : List Rect) → ((x y : ℤ) → covers all x y ≡ true → on_screen w h x y ≡ true) → AllByRecursion (IsOnScreen m.width m.height) rs → AllByRecursion (AreOf all) rs → AllByRecursion (IsOnScreen w h) rs
  unfolding AreOf
  each-within all [] there on are = tt
  each-within all (r ∷ rs) there on are =
      (within m.width m.height w h r on.0 (there (r.x2 -ℤ pos 1) (r.y2 -ℤ pos 1) (are.0 (r.x2 -ℤ pos 1) (r.y2 -ℤ pos 1) (last-in r on.0.columns on.0.rows))), each-within all rs there on.1 are.1)

  pub pixels-within : AllByRecursion (IsOnScreen w h) (pixels_of limit m)
  pixels-within =
      let all : List Rect = pixels_of limit m in
      each-within all all (λ x y e. held x y (pixels-asked limit m x y e)) (recursion_from_All (IsOnScreen m.width m.height) all (pixels_on_screen limit m)) (recursion_from_All (AreOf all) all (own-places all))

  pub copies-within : AllByRecursion (IsOnScreen w h) (copies_of limit m)
  copies-within =
      let all : List Rect = copies_of limit m in
      each-within all all (λ x y e. held x y (copies-asked limit m x y e).0) (recursion_from_All (IsOnScreen m.width m.height) all (copies_on_screen limit m)) (recursion_from_All (AreOf all) all (own-places all))

  sources-each : (rs : List Rect) → AllByRecursion (IsOnScreen m.width m.height) rs → AllByRecursion (λ r. IsOnScreen m.width m.height (source_rect m.offset r)) rs → AllByRecursion (AreOf (copies_of limit m)) rs
      → AllByRecursion (λ r. IsOnScreen w h (source_rect m.offset r)) rs
  unfolding AreOf
  sources-each [] on sources are = tt
  sources-each (r ∷ rs) on sources are =
      let asks = (copies-asked limit m (r.x2 -ℤ pos 1) (r.y2 -ℤ pos 1) (are.0 (r.x2 -ℤ pos 1) (r.y2 -ℤ pos 1) (last-in r on.0.columns on.0.rows))).1 in
      let there : on_screen w h ((r.x2 -ℤ m.offset.0) -ℤ pos 1) ((r.y2 -ℤ m.offset.1) -ℤ pos 1) ≡ true =
      ap (λ a. on_screen w h a ((r.y2 -ℤ m.offset.1) -ℤ pos 1)) (turned r.x2 m.offset.0) ∙ ap (on_screen w h ((r.x2 -ℤ pos 1) -ℤ m.offset.0)) (turned r.y2 m.offset.1) ∙ held ((r.x2 -ℤ pos 1) -ℤ m.offset.0) ((r.y2 -ℤ pos 1) -ℤ m.offset.1) asks in
      (within m.width m.height w h (source_rect m.offset r) sources.0 there, sources-each rs on.1 sources.1 are.1)
    where
      turned : (a d : ℤ) → (a -ℤ d) -ℤ pos 1 ≡ (a -ℤ pos 1) -ℤ d
      turned a d = omega (arith, ints)

  pub sources-within : AllByRecursion (λ r. IsOnScreen w h (source_rect m.offset r)) (copies_of limit m)
  sources-within =
      let all : List Rect = copies_of limit m in
      sources-each all (recursion_from_All (IsOnScreen m.width m.height) all (copies_on_screen limit m)) (recursion_from_All (λ r. IsOnScreen m.width m.height (source_rect m.offset r)) all (sources_inside limit m))
      (recursion_from_All (AreOf all) all (own-places all))

-- what an update does to what is shown: its copies, then its pixels
unfoldable pub update_of : ℕ → PixelFormat → List ℕ → Marks → Shown → Shown
update_of limit f picture m shown = changed (pixel_of m.width m.height picture f) (pixels_of limit m) (changed (copy_of m.offset) (copies_of limit m) shown)

pub cut-shows : {T : Type 0} (P : Type 0) (limit : ℕ) (f : PixelFormat) (picture : List ℕ) (m : Marks) (shown : Shown) → Shows T P (colour_at m.width m.height picture) m shown
    → Shows T P (colour_at m.width m.height picture) (after_sending (copies_of limit m) (pixels_of limit m) m) (update_of limit f picture m shown)
unfolding update_of
cut-shows {T} P limit f picture m shown s = record {
  clean = λ t x y on e. clean t x y on (sym (mark-is m after x y on) ∙ e);
  copied = λ t x y on e. absurd (none (covers copies x y || covers pixels x y || is_clean (mark_at m x y)) (sym (mark-is m after x y on) ∙ e));
  may = λ x y on e. absurd (none (covers copies x y || covers pixels x y || is_clean (mark_at m x y)) (sym (mark-is m after x y on) ∙ e));
}
  where
    copies : List Rect
    copies = copies_of limit m

    pixels : List Rect
    pixels = pixels_of limit m

    after : ℤ → ℤ → Mark
    after x y = cond (covers copies x y || covers pixels x y || is_clean (mark_at m x y)) Clean Owed

    none : (b : Bool) → cond b Clean Owed ≡ Copied → ⊥
    none true e = cc
    none false e = cc

    colour : ℤ → ℤ → ℕ
    colour = colour_at m.width m.height picture

    between : Shown
    between = changed (copy_of m.offset) copies shown

    on_it : AllByRecursion (IsOnScreen m.width m.height) copies
    on_it = recursion_from_All (IsOnScreen m.width m.height) copies (copies_on_screen limit m)

    was_copied : (x y : ℤ) → covers copies x y ≡ true → mark_at m x y ≡ Copied
    was_copied x y e = can-copied (asked_at m x y) (asked_at m (x -ℤ m.offset.0) (y -ℤ m.offset.1)) (mark_at m x y) (copies-can limit m x y e)

    source : T → (x y : ℤ) → covers copies x y ≡ true → on_screen m.width m.height (x -ℤ m.offset.0) (y -ℤ m.offset.1) ≡ true
    source t x y e = (s.copied t x y (covered-on m.width m.height copies on_it x y e) (was_copied x y e)).0

    copied_first : T → (x y : ℤ) → on_screen m.width m.height x y ≡ true → dot_at between x y ≡ if_in (covers copies x y) (dot_at shown (x -ℤ m.offset.0) (y -ℤ m.offset.1)) (dot_at shown x y)
    copied_first t x y on = copies-at m.width m.height m.offset copies on_it
        (in-order-take limit m.offset _ (copies-in-order m.width m.height (copyable m) m.offset)) (source t) shown x y on

    then_pixels : (x y : ℤ) → on_screen m.width m.height x y ≡ true → dot_at (changed (pixel_of m.width m.height picture f) pixels between) x y ≡ if_in (covers pixels x y) (pixel_dot f (colour x y)) (dot_at between x y)
    then_pixels x y on = pixels-at m.width m.height picture f pixels (recursion_from_All (IsOnScreen m.width m.height) pixels (pixels_on_screen limit m)) between x y on

    clean_mark : (k : Mark) → cond (is_clean k) Clean Owed ≡ Clean → k ≡ Clean
    clean_mark Clean e = refl
    clean_mark Copied e = absurd cc
    clean_mark Owed e = e

    clean : T → (x y : ℤ) → on_screen m.width m.height x y ≡ true → after x y ≡ Clean → ShowsColour (dot_at (changed (pixel_of m.width m.height picture f) pixels between) x y) (colour x y)
    clean t x y on e = by_pixels (covers pixels x y) refl
      where
        by_copies : (b : Bool) → covers copies x y ≡ b → cond (b || false || is_clean (mark_at m x y)) Clean Owed ≡ Clean → ShowsColour (dot_at between x y) (colour x y)
        by_copies true is k = tells (dot_at shown (x -ℤ m.offset.0) (y -ℤ m.offset.1)) (dot_at between x y) (colour x y) (colour x y)
            (copied_first t x y on ∙ ap (λ b. if_in b (dot_at shown (x -ℤ m.offset.0) (y -ℤ m.offset.1)) (dot_at shown x y)) is) refl (s.copied t x y on (was_copied x y is)).1
        by_copies false is k = tells (dot_at shown x y) (dot_at between x y) (colour x y) (colour x y)
            (copied_first t x y on ∙ ap (λ b. if_in b (dot_at shown (x -ℤ m.offset.0) (y -ℤ m.offset.1)) (dot_at shown x y)) is) refl (s.clean t x y on (clean_mark (mark_at m x y) k))

        by_pixels : (b : Bool) → covers pixels x y ≡ b → ShowsColour (dot_at (changed (pixel_of m.width m.height picture f) pixels between) x y) (colour x y)
        by_pixels true is = (f, then_pixels x y on ∙ ap (λ b. if_in b (pixel_dot f (colour x y)) (dot_at between x y)) is)
        by_pixels false is = tells (dot_at between x y) (dot_at (changed (pixel_of m.width m.height picture f) pixels between) x y) (colour x y) (colour x y)
            (then_pixels x y on ∙ ap (λ b. if_in b (pixel_dot f (colour x y)) (dot_at between x y)) is) refl
            (by_copies (covers copies x y) refl (sym (ap (λ b. cond (covers copies x y || b || is_clean (mark_at m x y)) Clean Owed) is) ∙ e))
