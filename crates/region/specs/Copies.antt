-- Copies that are done one after the other.
use Rattle.std.specs.Prelude.{◌≡◌, ℕ, Bool, true, false, List, [], ◌∷◌, ℤ, ◌-ℤ◌}
use Rattle.region.specs.declared.Rect.{Rect}
use Rattle.region.specs.Region.{in_rect, covers, rects_of, order}

-- copies by an offset, none of which is drawn over a later one's source
abbrev pub InOrder : ℤ × ℤ → List Rect → Type 0
InOrder by [] = Unit {0}
InOrder by (r ∷ rs) = ((x y : ℤ) → covers rs x y ≡ true → in_rect r (x -ℤ by.0) (y -ℤ by.1) ≡ false) × InOrder by rs

-- in the order for copies, no rectangle of a set is drawn over a later one's source
abbrev pub copies_are_in_order : Type 0
copies_are_in_order = (w h : ℕ) (set : ℤ → ℤ → Bool) (by : ℤ × ℤ) → InOrder by (order by.0 by.1 (rects_of w h set))
