-- The rectangles of bands in linked spans.
use Rattle.std.specs.Prelude.{◌≡◌, ◌≢◌, ℕ, ◌≤◌, ℤ, ◌<ℤ◌, List, [], ◌∷◌, ◌++◌, map, flat_map, Bool, ◌&&◌, ◌||◌}
use Rattle.region.specs.declared.Rect.{Rect}
use Rattle.region.specs.Region.{in_rect, covers, reversed_if}
use Rattle.region_bands.specs.declared.Interval.{Interval}
use Rattle.region_bands.specs.declared.Rows.{Rows}
use Rattle.region_bands.specs.Bands.{Band, Bands, rows_of}
use Rattle.region_sets.specs.declared.queries.Rectangle.{Rectangle}
use Rattle.region_rows.specs.Rows.{IsRow, row_has}
use Rattle.region_rows.specs.RowLemmas.{Below}
use Rattle.region_sets.specs.Sets.{AreBands, EndBy, has, in_rows}

abbrev pub rect_of : Rows → Interval → Rect
rect_of rows i = record { x1 = i.from; y1 = rows.top; x2 = i.to; y2 = rows.bottom }

abbrev pub rect_in : Rectangle → Rect
rect_in r = rect_of r.rows r.columns

abbrev pub rects_of_band : Band → List Rect
rects_of_band b = map (rect_of (rows_of b)) b.row

-- bands top to bottom, intervals left to right
abbrev pub rects_in : List Band → List Rect
rects_in bands = flat_map rects_of_band bands

-- the same, the intervals right to left where reverse_x
abbrev pub lines_in : Bool → List Band → List Rect
lines_in reverse_x bands = flat_map (λ b. reversed_if reverse_x (rects_of_band b)) bands

-- the band of a rectangle
abbrev pub band_of : Rect → Band
band_of r = record { top = r.y1; bottom = r.y2; row = record { from = r.x1; to = r.x2 } ∷ [] }

-- maximal bands with the places of a rectangle, and no row in the making
pub record AreRectBands (r : Rect) (b : Bands) : Type 0 where
  pub bands : AreBands (b.above ++ b.below)
  pub no_row : b.row ≡ []
  pub places : (x y : ℤ) → has (b.above ++ b.below) x y ≡ in_rect r x y

-- maximal bands, no row in the making, and room that is there
pub record AreBandsWithRoom (b : Bands) (room : ℕ) : Type 0 where
  pub bands : AreBands (b.above ++ b.below)
  pub no_row : b.row ≡ []
  pub there : room ≤ b.spare

abbrev pub rows_in : Rect → Rows
rows_in r = record { top = r.y1; bottom = r.y2 }

abbrev pub columns_in : Rect → Interval
columns_in r = record { from = r.x1; to = r.x2 }

-- maximal bands with the places of the rectangles, and no row in the making
pub record AreBandsOf (rects : List Rect) (b : Bands) : Type 0 where
  pub bands : AreBands (b.above ++ b.below)
  pub no_row : b.row ≡ []
  pub places : (x y : ℤ) → has (b.above ++ b.below) x y ≡ covers rects x y

-- maximal bands above the gap and none below it; and in the making a row below them that ends with a rectangle
pub record IsStack (last : Rect) (b : Bands) : Type 0 where
  pub bands : AreBands b.above
  pub none_below : b.below ≡ []
  pub some : last.y1 <ℤ last.y2
  pub ends : EndBy last.y1 b.above
  pub row : IsRow b.row
  pub columns : b.row ≢ []
  pub behind : (x : ℤ) → last.x2 <ℤ x → Below x b.row

-- whether the place is in the bands above the gap, or in the row in the making, which has the rows of a rectangle
abbrev pub stack_has : Rect → Bands → ℤ → ℤ → Bool
stack_has last b x y = has b.above x y || (in_rows (rows_in last) y && row_has b.row x)

-- the row in the making became the last band above the gap, in the given rows
pub record IsClosed (rows : Rows) (old new : Bands) : Type 0 where
  pub bands : AreBands new.above
  pub ends : EndBy rows.bottom new.above
  pub places : (x y : ℤ) → has new.above x y ≡ (has old.above x y || (in_rows rows y && row_has old.row x))
  pub same : new ≡ record old { above = new.above; row = []; spare = new.spare }
