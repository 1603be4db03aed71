-- Values by place, as a list of a screen's rows from the top, each from left to right; and rectangles of a screen.
use Rattle.std.specs.Prelude.{ℕ, ◌+◌, ◌*◌, ◌/◌, ◌%◌, List, get_or, map, ℤ, pos, nat_abs, Bool, ◌&&◌, ◌-ℤ◌, ◌≤ℤ◌, ◌<ℤ◌, if◌then◌else◌}
use Rattle.std.specs.List.{range_with_len, list_any}
use Rattle.std.specs.Ordering.{int_eq}
use Rattle.region.specs.declared.Rect.{Rect}
use Rattle.region.specs.Region.{on_screen}

-- the longest side of a screen: at most so many columns, and so many rows
abbrev pub longest_side : ℕ
longest_side = 8192

-- the value of each place of a w by h screen
abbrev pub by_place : {X : Type 0} → ℕ → ℕ → (ℤ → ℤ → X) → List X
by_place w h value = map (λ i. value (pos (i % w)) (pos (i / w))) (range_with_len 0 (w * h))

-- the value of a place, and otherwise off the screen
abbrev pub at_place : {X : Type 0} → X → ℕ → ℕ → List X → ℤ → ℤ → X
at_place otherwise w h values x y = if on_screen w h x y then get_or values (nat_abs y * w + nat_abs x) otherwise else otherwise

-- whether a set has a place on the screen
abbrev pub some_place : ℕ → ℕ → (ℤ → ℤ → Bool) → Bool
some_place w h set = list_any (λ is_in. is_in) (by_place w h set)

-- of a copy of a set by (dx, dy), the places that are on the screen with their sources
abbrev pub cut_destination : ℕ → ℕ → (ℤ → ℤ → Bool) → ℤ × ℤ → ℤ → ℤ → Bool
cut_destination w h set by x y = set x y && on_screen w h x y && on_screen w h (x -ℤ by.0) (y -ℤ by.1)

abbrev pub same_offset : ℤ × ℤ → ℤ × ℤ → Bool
same_offset d e = int_eq d.0 e.0 && int_eq d.1 e.1

-- a rectangle of a w by h screen, not empty
pub record IsOnScreen (w h : ℕ) (r : Rect) : Type 0 where
  pub left : pos 0 ≤ℤ r.x1
  pub columns : r.x1 <ℤ r.x2
  pub right : r.x2 ≤ℤ pos w
  pub top : pos 0 ≤ℤ r.y1
  pub rows : r.y1 <ℤ r.y2
  pub bottom : r.y2 ≤ℤ pos h

-- the rectangle that a rectangle's pixels are copied from, by an offset
abbrev pub source_rect : ℤ × ℤ → Rect → Rect
source_rect by r = record { x1 = r.x1 -ℤ by.0; y1 = r.y1 -ℤ by.1; x2 = r.x2 -ℤ by.0; y2 = r.y2 -ℤ by.1 }
