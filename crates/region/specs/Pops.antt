-- A canonical list without one of its rectangles.
use Rattle.std.specs.Prelude.{◌≡◌, Bool, ◌&&◌, not, List, ◌∷◌, ℤ}
use Rattle.region.specs.declared.Rect.{Rect}
use Rattle.region.specs.Region.{in_rect, covers, in_order}

-- the first of the list's rectangles in an order
pub record IsFirst (reverse_x reverse_y : Bool) (rs : List Rect) (r : Rect) : Type 0 where
  pub rest : List Rect
  pub is : in_order reverse_x reverse_y rs ≡ r ∷ rest

-- the second list has the first one's places without those of r
abbrev pub IsWithout : Rect → List Rect → List Rect → Type 0
IsWithout r old new = (x y : ℤ) → covers new x y ≡ (covers old x y && not (in_rect r x y))
