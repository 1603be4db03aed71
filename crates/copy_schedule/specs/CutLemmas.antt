-- What an update sends lies on the screen.
use Rattle.std.proofs.Common.{◌≡◌, ℕ, Bool, true, false, cond, not, ◌&&◌, refl, sym, ◌∙◌}
use Rattle.std.specs.Prelude.{ℤ, pos, ◌-ℤ◌, int_lt}
use Rattle.std.specs.List.{All}
use Rattle.std.proofs.lemmas.Bool.{and_parts}
use Rattle.std.proofs.lemmas.List.Elements.{All-take}
use Rattle.region.specs.declared.Rect.{Rect}
use Rattle.region.specs.Region.{covers, on_screen, order, rects_of}
use Rattle.region.specs.CanonicalLemmas.{rects_of_is_canonical-holds, rects_of_covers-holds}
use Rattle.region.specs.ScreenLemmas.{All-in_order}
use Rattle.region.specs.CopyPlaceLemmas.{rects-on-screen, sources-on-screen}
use Rattle.region.specs.Places.{IsOnScreen, source_rect}
use Rattle.copy_schedule.specs.Marks.{Marks, is_copied, mark_at, asked_at, wanted, copyable, copies_of, pixels_of}

-- a place of a test's rectangles is on the screen and passes the test
passes : (w h : ℕ) (test : ℤ → ℤ → Bool) (x y : ℤ) → covers (rects_of w h test) x y ≡ true → (on_screen w h x y ≡ true) × (test x y ≡ true)
passes w h test x y there = and_parts (on_screen w h x y) (test x y) (sym (rects_of_covers-holds w h test x y) ∙ there)

test_on_screen : (w h : ℕ) (test : ℤ → ℤ → Bool) → All (IsOnScreen w h) (rects_of w h test)
test_on_screen w h test = rects-on-screen w h (rects_of w h test) (rects_of_is_canonical-holds w h test) (λ x y there. (passes w h test x y there).0)

-- a place that can be copied has its source on the screen
source_on : (m : Marks) (x y : ℤ) → copyable m x y ≡ true → on_screen m.width m.height (x -ℤ m.offset.0) (y -ℤ m.offset.1) ≡ true
source_on m x y can = asked_on (on_screen m.width m.height (x -ℤ m.offset.0) (y -ℤ m.offset.1)) _ (and_parts (asked_at m x y && is_copied (mark_at m x y)) (asked_at m (x -ℤ m.offset.0) (y -ℤ m.offset.1)) can).1
  where
    asked_on : (on asked : Bool) → cond on asked false ≡ true → on ≡ true
    asked_on true asked e = refl
    asked_on false asked e = e

-- all that is sent is on the screen
pub copies_on_screen : (limit : ℕ) (m : Marks) → All (IsOnScreen m.width m.height) (copies_of limit m)
copies_on_screen limit m = All-take (IsOnScreen m.width m.height) limit (order m.offset.0 m.offset.1 (rects_of m.width m.height (copyable m)))
    (All-in_order (IsOnScreen m.width m.height) (int_lt (pos 0) m.offset.0) (int_lt (pos 0) m.offset.1) (rects_of m.width m.height (copyable m)) (test_on_screen m.width m.height (copyable m)))

pub sources_inside : (limit : ℕ) (m : Marks) → All (λ r. IsOnScreen m.width m.height (source_rect m.offset r)) (copies_of limit m)
sources_inside limit m =
    let P : Rect → Type 0 = λ r. IsOnScreen m.width m.height (source_rect m.offset r) in
    let rects = rects_of m.width m.height (copyable m) in
    All-take P limit (order m.offset.0 m.offset.1 rects)
    (All-in_order P (int_lt (pos 0) m.offset.0) (int_lt (pos 0) m.offset.1) rects
    (sources-on-screen m.width m.height m.offset rects (rects_of_is_canonical-holds m.width m.height (copyable m)) (λ x y there. source_on m x y (passes m.width m.height (copyable m) x y there).1)))

pub pixels_on_screen : (limit : ℕ) (m : Marks) → All (IsOnScreen m.width m.height) (pixels_of limit m)
pixels_on_screen limit m =
    let test : ℤ → ℤ → Bool = λ x y. wanted m x y && not (copyable m x y) in
    All-take (IsOnScreen m.width m.height) limit (rects_of m.width m.height test) (test_on_screen m.width m.height test)
