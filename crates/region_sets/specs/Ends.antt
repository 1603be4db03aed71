-- The rectangle that is taken out at an end of bands.
use Rattle.std.specs.Prelude.{◌≡◌, Bool, true, false, ◌&&◌, not, List, [], ◌∷◌, ℤ, ◌<ℤ◌, slice_get, Option, Some, None}
use Rattle.std.specs.List.{last_or}
use Rattle.std.specs.Option.{option_map}
use Rattle.region_bands.specs.declared.Interval.{Interval}
use Rattle.region_bands.specs.Bands.{Band, rows_of}
use Rattle.region_rows.specs.Rows.{IsRow}
use Rattle.region_sets.specs.Sets.{has, AreBands}
use Rattle.region_sets.specs.declared.queries.Rectangle.{Rectangle}
use Rattle.region_sets.specs.Queries.{in_rectangle}

-- the first of a list, or the last where it is read in reverse
abbrev pub end_of : {A : Type 0} → Bool → List A → Option A
end_of false l = slice_get l 0
end_of true l = last_or None l

-- the rectangle of a band's first interval, or of its last
abbrev pub end_in_band : Bool → Option Band → Option Rectangle
end_in_band reverse_x None = None
end_in_band reverse_x (Some b) = option_map (λ columns. record { rows = rows_of b; columns = columns }) (end_of reverse_x b.row)

-- the rectangle of an interval at an end: in the topmost band or the bottommost, the first from the left or from the right
abbrev pub end_rectangle : Bool → Bool → List Band → Option Rectangle
end_rectangle reverse_x reverse_y bands = end_in_band reverse_x (end_of reverse_y bands)

-- what has the old bands' places without those of the rectangle
pub record IsWithout (r : Rectangle) (old new : List Band) : Type 0 where
  pub are_bands : AreBands new
  pub has : (x y : ℤ) → has new x y ≡ (has old x y && not (in_rectangle r x y))

-- a row without its last interval
abbrev pub without_last : List Interval → List Interval
without_last [] = []
without_last (i ∷ []) = []
without_last (i ∷ j ∷ rest) = i ∷ without_last (j ∷ rest)

-- a row without its first interval, or without its last where it is read in reverse
abbrev pub without_end : Bool → List Interval → List Interval
without_end false [] = []
without_end false (i ∷ rest) = rest
without_end true row = without_last row

-- a band that may have become empty, or alike with a neighbour
pub record IsChanged (b : Band) : Type 0 where
  pub some : b.top <ℤ b.bottom
  pub row : IsRow b.row
