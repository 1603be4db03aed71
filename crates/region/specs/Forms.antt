-- How a region keeps its places.
use Rattle.std.specs.Prelude.{◌≡◌, ℕ, ℤ, ◌<ℤ◌, Bool, true, false, ◌&&◌, int_le, Option, None, Some, List, [], ◌∷◌, ◌++◌}
use Rattle.region.specs.declared.Rect.{Rect}
use Rattle.region.specs.declared.form.Form.{Form}
use Rattle.region.specs.declared.form.Form.TheVariants.{Plain, Linked}
use Rattle.region.specs.Region.{in_rect}
use Rattle.region.specs.RegionView.{RegionView}
use Rattle.region.specs.Rects.{band_of, rects_in, AreBandsWithRoom}
use Rattle.region_bands.specs.Bands.{Band}
use Rattle.region_sets.specs.Strips.{nearer}
use Rattle.region_sets.specs.Walks.{farther}

-- a rectangle that has places
pub record HasPlaces (r : Rect) : Type 0 where
  pub columns : r.x1 <ℤ r.x2
  pub rows : r.y1 <ℤ r.y2

-- of a rectangle, or of none
abbrev pub IsPlain : Option Rect → Type 0
IsPlain None = Unit {0}
IsPlain (Some r) = HasPlaces r

-- whether a place is in the rectangle, if there is one
abbrev pub in_plain : Option Rect → ℤ → ℤ → Bool
in_plain None x y = false
in_plain (Some r) x y = in_rect r x y

-- two rectangles are there and share a place
abbrev pub PlainsShare : Option Rect → Option Rect → Type 0
PlainsShare a b = (x : ℤ) × ((y : ℤ) × ((in_plain a x y && in_plain b x y) ≡ true))

abbrev pub plain_bands : Option Rect → List Band
plain_bands None = []
plain_bands (Some r) = band_of r ∷ []

abbrev pub bands_in : Form → List Band
bands_in (Plain rect) = plain_bands rect
bands_in (Linked own) = own.value.bands.above ++ own.value.bands.below

abbrev pub room_in : Form → ℕ
room_in (Plain rect) = 0
room_in (Linked own) = own.value.room

abbrev pub IsForm : Form → Type 0
IsForm (Plain rect) = IsPlain rect
IsForm (Linked own) = AreBandsWithRoom own.value.bands own.value.room

abbrev pub view_of : Form → RegionView
view_of form = record { list = rects_in (bands_in form); room = room_in form }

-- whether the first rectangle lies in the second
abbrev pub lies_in : Rect → Rect → Bool
lies_in r q = (int_le q.x1 r.x1 && int_le r.x2 q.x2) && (int_le q.y1 r.y1 && int_le r.y2 q.y2)

-- what two rectangles share, which may have no places
abbrev pub overlap : Rect → Rect → Rect
overlap r q = record { x1 = farther r.x1 q.x1; y1 = farther r.y1 q.y1; x2 = nearer r.x2 q.x2; y2 = nearer r.y2 q.y2 }
