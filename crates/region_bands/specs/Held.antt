-- How the bands lie in the arena: a list of the bands' spans, below each of them a list of its intervals' spans, and the list
-- of the row in the making.
use Rattle.std.specs.Prelude.{◌≡◌, ◌≢◌, ℕ, ℤ, pos, ◌==◌, nat_eq, if◌then◌else◌, List, [], ◌∷◌, ◌++◌, map, Option, Some, None, slice_get}
use Rattle.std.specs.List.{IsDistinct}
use Rattle.std.specs.Option.{option_map_or}
use Rattle.span_arena.specs.Arena.{Arena, list_of, ids_of, span_of, IsSound}
use Rattle.span_arena.specs.declared.Span.{Span}
use Rattle.region_bands.specs.declared.Interval.{Interval}
use Rattle.region_bands.specs.declared.Lists.{Lists}
use Rattle.region_bands.specs.Bands.{Band, Bands, nothing}

-- the fact holds of each element
abbrev pub Each : {X : Type 0} → (X → Type 0) → List X → Type 0
Each P [] = Unit {0}
Each P (x ∷ xs) = P x × Each P xs

-- a span with its id
abbrev pub Placed : Type 0
Placed = ℕ × Span

-- an interval with the id of its span
abbrev pub PlacedInterval : Type 0
PlacedInterval = ℕ × Interval

abbrev pub ids_in : {X : Type 0} → List (ℕ × X) → List ℕ
ids_in xs = map (λ p. p.0) xs

abbrev pub intervals_in : List PlacedInterval → List Interval
intervals_in row = map (λ p. p.1) row

-- the arena's list with an id has these spans under these ids
pub record Has (a : Arena) (list : ℕ) (placed : List Placed) : Type 0 where
  pub ids : list_of a list ≡ Some (ids_in placed)
  pub spans : Each (λ p. span_of a p.0 ≡ Some p.1) placed

-- every list but one is as it was, and so are its spans
abbrev pub Keeps : Arena → Arena → ℕ → Type 0
Keeps old new list = (other : ℕ) (placed : List Placed) → other ≢ list → Has old other placed → Has new other placed

-- a band with the ids of its span, of its intervals' list and of their spans
pub record Entry : Type 0 where
  pub at : ℕ
  pub list : ℕ
  pub top : ℤ
  pub bottom : ℤ
  pub row : List PlacedInterval

abbrev pub at_of : Entry → ℕ
at_of e = e.at

abbrev pub list_in : Entry → ℕ
list_in e = e.list

abbrev pub band_of : Entry → Band
band_of e = record { top = e.top; bottom = e.bottom; row = intervals_in e.row }

abbrev pub placed_band : Entry → Placed
placed_band e = (e.at, record { start = e.top; stop = e.bottom; sub = Some e.list })

abbrev pub placed_interval : PlacedInterval → Placed
placed_interval p = (p.0, record { start = p.1.from; stop = p.1.to; sub = None })

-- the arena has a row of intervals in a list
abbrev pub HasRow : Arena → ℕ → List PlacedInterval → Type 0
HasRow a list row = Has a list (map placed_interval row)

-- `left` leads to the first of the last intervals of a row, and these are they
pub record IsRest (left : Option ℕ) (row : List PlacedInterval) (intervals : List Interval) : Type 0 where
  pub passed : List PlacedInterval
  pub rest : List PlacedInterval
  pub row_is : row ≡ passed ++ rest
  pub left_is : left ≡ slice_get (ids_in rest) 0
  pub intervals_are : intervals ≡ intervals_in rest

-- the same of the first of the bands below the gap
abbrev pub IsLeft : Option ℕ → List Entry → List Interval → Type 0
IsLeft left [] intervals = (left ≡ None) × (intervals ≡ [])
IsLeft left (e ∷ rest) intervals = IsRest left e.row intervals

-- the bands and the row lie in the arena, under these two lists
pub record Holds (a : Arena) (bands row_list : ℕ) (gap left : Option ℕ) (v : Bands) : Type 0 where
  pub sound : IsSound a
  pub above : List Entry
  pub below : List Entry
  pub row : List PlacedInterval
  pub has_bands : Has a bands (map placed_band above ++ map placed_band below)
  pub has_row : HasRow a row_list row
  pub rows_above : Each (λ e. HasRow a e.list e.row) above
  pub rows_below : Each (λ e. HasRow a e.list e.row) below
  pub apart : IsDistinct nat_eq (bands ∷ row_list ∷ (map list_in above ++ map list_in below))
  pub gap_is : gap ≡ slice_get (map at_of below) 0
  pub is_left : IsLeft left below v.left
  pub above_is : v.above ≡ map band_of above
  pub below_is : v.below ≡ map band_of below
  pub row_is : v.row ≡ intervals_in row
  pub spare_is : v.spare ≡ a.spare

-- the fields of a list of bands show this value
abbrev pub Shows : Arena → Option Lists → Option ℕ → Option ℕ → Bands → Type 0
Shows a None gap left v = (gap ≡ None) × (left ≡ None) × (v ≡ nothing)
Shows a (Some lists) gap left v = Holds a lists.bands lists.row gap left v

abbrev pub IsHeld : Arena → Option Lists → Option ℕ → Option ℕ → Type 0
IsHeld a lists gap left = (v : Bands) × Shows a lists gap left v

-- the ids before one, all where there is none; and those from it on
abbrev pub ids_before : Option ℕ → List ℕ → List ℕ
ids_before None ids = ids
ids_before (Some at) [] = []
ids_before (Some at) (id ∷ rest) = if id == at then [] else id ∷ ids_before (Some at) rest

abbrev pub ids_from : Option ℕ → List ℕ → List ℕ
ids_from None ids = []
ids_from (Some at) [] = []
ids_from (Some at) (id ∷ rest) = if id == at then id ∷ rest else ids_from (Some at) rest

module _ (a : Arena) where
  abbrev pub interval_at : ℕ → Interval
  interval_at at = option_map_or (λ s. record { from = s.start; to = s.stop }) (span_of a at) (record { from = pos 0; to = pos 0 })

  -- the ids of the list below a span; none where there is no list
  abbrev pub ids_below : ℕ → List ℕ
  ids_below at = option_map_or (λ s. option_map_or (ids_of a) s.sub []) (span_of a at) []

  abbrev pub band_at : ℕ → Band
  band_at at =
      option_map_or (λ s. record { top = s.start; bottom = s.stop; row = map interval_at (ids_below at) }) (span_of a at)
      (record { top = pos 0; bottom = pos 0; row = [] })

  -- the first span of the list below a span, if there is one
  abbrev pub first_under : Option ℕ → Option ℕ
  first_under at = option_map_or (λ i. slice_get (ids_below i) 0) at None

  -- the list below a span is there
  abbrev pub IsOverList : ℕ → Type 0
  IsOverList at = (s : Span) × (list : ℕ) × (ids : List ℕ) × (span_of a at ≡ Some s) × (s.sub ≡ Some list) × (list_of a list ≡ Some ids)

  -- what contracts see
  abbrev pub view_of : Option Lists → Option ℕ → Option ℕ → Bands
  view_of None gap left = nothing
  view_of (Some lists) gap left = record {
    above = map band_at (ids_before gap (ids_of a lists.bands));
    row = map interval_at (ids_of a lists.row);
    left = map interval_at (option_map_or (λ at. ids_from left (ids_below at)) gap []);
    below = map band_at (ids_from gap (ids_of a lists.bands));
    spare = a.spare;
  }
