-- What is read past on the way to an answer.
use Rattle.std.specs.Prelude.{◌≡◌, ◌↔◌, ℕ, ◌+◌, length, Bool, false, ◌&&◌, cond, List, [], ◌∷◌, ℤ, int_lt, int_le, Option, Some, None}
use Rattle.region_bands.specs.declared.Interval.{Interval}
use Rattle.region_bands.specs.declared.Rows.{Rows}
use Rattle.std.specs.Option.{option_map}
use Rattle.region_bands.specs.Bands.{Band, rows_of}
use Rattle.region_sets.specs.Sets.{has}
use Rattle.region_sets.specs.Strips.{nearer}
use Rattle.region_sets.specs.declared.queries.Rectangle.{Rectangle}
use Rattle.region_sets.specs.Queries.{HoldsAll, LiesIn}

-- the intervals from the first on that ends behind x
abbrev pub behind : ℤ → List Interval → List Interval
behind x [] = []
behind x (i ∷ rest) = cond (int_le i.to x) (behind x rest) (i ∷ rest)

-- the bands from the first on that ends below y
abbrev pub below : ℤ → List Band → List Band
below y [] = []
below y (b ∷ rest) = cond (int_le b.bottom y) (below y rest) (b ∷ rest)

-- whether there is an interval, and it ends by x
abbrev pub ends_by : ℤ → Option Interval → Bool
ends_by x None = false
ends_by x (Some i) = int_le i.to x

-- whether there are rows, and they end by y
abbrev pub rows_end_by : ℤ → Option Rows → Bool
rows_end_by y None = false
rows_end_by y (Some r) = int_le r.bottom y

-- the nearer end of two intervals; none where one is missing
abbrev pub first_end : Option Interval → Option Interval → Option ℤ
first_end None b = None
first_end (Some i) None = None
first_end (Some i) (Some j) = Some (nearer i.to j.to)

-- whether both intervals are there and share a column
abbrev pub intervals_meet : Option Interval → Option Interval → Bool
intervals_meet None b = false
intervals_meet (Some i) None = false
intervals_meet (Some i) (Some j) = int_lt i.from j.to && int_lt j.from i.to

-- whether both bands' rows are there and share one
abbrev pub rows_overlap : Option Rows → Option Rows → Bool
rows_overlap None s = false
rows_overlap (Some r) None = false
rows_overlap (Some r) (Some s) = int_lt r.top s.bottom && int_lt s.top r.bottom

-- the nearer end of two bands' rows; none where one is missing
abbrev pub first_bottom : Option Rows → Option Rows → Option ℤ
first_bottom None s = None
first_bottom (Some r) None = None
first_bottom (Some r) (Some s) = Some (nearer r.bottom s.bottom)

-- where the last of the intervals ends; x where there is none
abbrev pub row_end : ℤ → List Interval → ℤ
row_end x [] = x
row_end x (i ∷ rest) = row_end i.to rest

-- the columns from a row's first to its last; none of a row without columns
abbrev pub columns_of : List Interval → Option Interval
columns_of [] = None
columns_of (i ∷ rest) = Some (record { from = i.from; to = row_end i.to rest })

-- the least rectangle that holds the first band
abbrev pub first_bounds : List Band → Option Rectangle
first_bounds [] = None
first_bounds (b ∷ rest) = option_map (λ columns. record { rows = rows_of b; columns = columns }) (columns_of b.row)

abbrev pub rest_of : List Band → List Band
rest_of [] = []
rest_of (b ∷ rest) = rest

-- the first band alone
abbrev pub first_of : List Band → List Band
first_of [] = []
first_of (b ∷ rest) = b ∷ []

-- no place is in the first bands of both
abbrev pub FirstsApart : List Band → List Band → Type 0
FirstsApart a b = (x y : ℤ) → (has (first_of a) x y && has (first_of b) x y) ≡ false

-- the rectangle is the least that holds the one that is given and the bands
abbrev pub IsJoined : Rectangle → List Band → Rectangle → Type 0
IsJoined given bands r = (q : Rectangle) → LiesIn r q ↔ (LiesIn given q × HoldsAll q bands)

abbrev pub farther : ℤ → ℤ → ℤ
farther a b = cond (int_lt a b) b a

-- the least rectangle that holds both
abbrev pub joined : Rectangle → Rectangle → Rectangle
joined r q = record { rows = record { top = nearer r.rows.top q.rows.top; bottom = farther r.rows.bottom q.rows.bottom }; columns = record { from = nearer r.columns.from q.columns.from; to = farther r.columns.to q.columns.to } }

-- so many for each band, and one for each interval
abbrev pub counted : ℕ → List Band → ℕ
counted each [] = 0
counted each (b ∷ rest) = each + length b.row + counted each rest
