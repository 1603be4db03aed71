-- What contracts see of a region, and what its calls do to it.
use Rattle.std.specs.Prelude.{◌≡◌, ℕ, Bool, true, false, [], ◌∷◌, ◌&&◌, not, List, ℤ, Option, None, Some, pos, negsuc, ◌+ℤ◌, ◌≤ℤ◌, int_le}
use Rattle.std.specs.List.{list_any}
use Rattle.region.specs.declared.Rect.{Rect}
use Rattle.region.specs.Region.{covers, in_rect}

-- a region's canonical list, and the room that was made for a result: how many nodes it holds
pub record RegionView : Type 0 where
  pub list : List Rect
  pub room : ℕ

-- coordinates lie from -2^20 to 2^20
abbrev pub coordinate : ℤ → Bool
coordinate x = int_le (negsuc 1048575) x && int_le x (pos 1048576)

abbrev pub in_range : Rect → Bool
in_range r = (coordinate r.x1 && coordinate r.y1) && (coordinate r.x2 && coordinate r.y2)

abbrev pub one_if : Bool → Rect → List Rect
one_if true r = r ∷ []
one_if false r = []

abbrev pub moved_rect : ℤ → ℤ → Rect → Rect
moved_rect dx dy r = record { x1 = r.x1 +ℤ dx; y1 = r.y1 +ℤ dy; x2 = r.x2 +ℤ dx; y2 = r.y2 +ℤ dy }

-- a rectangle, moved, leaves the range
abbrev pub leaves_range : ℤ → ℤ → List Rect → Bool
leaves_range dx dy rs = list_any (λ r. not (in_range (moved_rect dx dy r))) rs

-- the rectangle of a list of one
abbrev pub only : List Rect → Option Rect
only [] = None
only (r ∷ []) = Some r
only (r ∷ q ∷ rs) = None

-- some place is in both
abbrev pub SharePlace : List Rect → List Rect → Type 0
SharePlace rs qs = (x : ℤ) × ((y : ℤ) × ((covers rs x y && covers qs x y) ≡ true))

-- the rectangle holds each of the places
abbrev pub HoldsAll : Rect → List Rect → Type 0
HoldsAll r rs = (x y : ℤ) → covers rs x y ≡ true → in_rect r x y ≡ true

-- the first rectangle lies in the second
pub record LiesIn (r q : Rect) : Type 0 where
  pub left : q.x1 ≤ℤ r.x1
  pub top : q.y1 ≤ℤ r.y1
  pub right : r.x2 ≤ℤ q.x2
  pub bottom : r.y2 ≤ℤ q.y2

-- the least rectangle that holds the places
pub record IsBox (r : Rect) (rs : List Rect) : Type 0 where
  pub holds : HoldsAll r rs
  pub least : (q : Rect) → HoldsAll q rs → LiesIn r q
