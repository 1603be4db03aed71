-- One step of a walk over two lists of bands.
use Rattle.std.specs.Prelude.{◌≡◌, ◌≢◌, Bool, true, false, ◌&&◌, cond, List, [], ◌∷◌, ◌++◌, ℤ, pos, int_lt, int_le, ◌≤ℤ◌, Option, Some, None, slice_get}
use Rattle.std.specs.Option.{option_map}
use Rattle.region_bands.specs.declared.Interval.{Interval}
use Rattle.region_bands.specs.declared.Rows.{Rows}
use Rattle.region_bands.specs.Bands.{Band, rows_of}
use Rattle.region_rows.specs.declared.Keep.{Keep}
use Rattle.region_rows.specs.Rows.{IsRow, row_has, keeps_place}
use Rattle.region_sets.specs.declared.strips.Strip.{Strip}

-- where the rows begin, or where they end if they have begun by y
abbrev pub edge_of : ℤ → Rows → ℤ
edge_of y r = cond (int_le r.top y) r.bottom r.top

abbrev pub nearer : ℤ → ℤ → ℤ
nearer a b = cond (int_lt a b) a b

-- the strip from y on, of two lists of bands by their first bands' rows
abbrev pub next_strip : ℤ → Option Rows → Option Rows → Option Strip
next_strip y None None = None
next_strip y None (Some s) = Some (record { bottom = edge_of y s; in_first = false; in_second = int_le s.top y })
next_strip y (Some r) None = Some (record { bottom = edge_of y r; in_first = int_le r.top y; in_second = false })
next_strip y (Some r) (Some s) = Some (record { bottom = nearer (edge_of y r) (edge_of y s); in_first = int_le r.top y; in_second = int_le s.top y })

-- where the first of two lists of bands begins
abbrev pub start_of : Option Rows → Option Rows → ℤ
start_of None None = pos 0
start_of None (Some s) = s.top
start_of (Some r) None = r.top
start_of (Some r) (Some s) = nearer r.top s.top

-- the bands without the first, if that ends by the edge
abbrev pub later : ℤ → List Band → List Band
later edge [] = []
later edge (b ∷ rest) = cond (int_le b.bottom edge) rest (b ∷ rest)

abbrev pub first_rows_of : List Band → Option Rows
first_rows_of bands = option_map rows_of (slice_get bands 0)

-- the first band has these rows
abbrev pub FirstIs : Rows → List Band → Type 0
FirstIs rows bands = first_rows_of bands ≡ Some rows

-- the row has the columns that are kept of a strip, which is in a band of row a, in one of row b, in both or in neither
pub record IsStripRow (keep : Keep) (in_a in_b : Bool) (a b row : List Interval) : Type 0 where
  pub is_row : IsRow row
  pub has : (x : ℤ) → row_has row x ≡ keeps_place keep (in_a && row_has a x) (in_b && row_has b x)

-- no bands are left below, and the places of the others alone aren't kept
pub record NoneKept (keep : Keep) (below : List Band) : Type 0 where
  pub over : below ≡ []
  pub out : keeps_place keep false true ≡ false

-- from y on the bands below stay: there are no others, and the first is kept, whole, with another row than the last one above
-- where they touch
pub record Rests (keep : Keep) (y : ℤ) (above below others : List Band) : Type 0 where
  pub over : others ≡ []
  pub stays : (first : Band) (rest : List Band) → below ≡ first ∷ rest → keeps_place keep true false ≡ true
  pub whole : (first : Band) (rest : List Band) → below ≡ first ∷ rest → y ≤ℤ first.top
  pub apart : (front : List Band) (last first : Band) (rest : List Band) → above ≡ front ++ last ∷ [] → below ≡ first ∷ rest → last.bottom ≡ first.top → last.row ≢ first.row
