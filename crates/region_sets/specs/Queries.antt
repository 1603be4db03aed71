-- What is asked of bands.
use Rattle.std.specs.Prelude.{◌≡◌, ℕ, ◌+◌, Bool, true, ◌&&◌, List, [], ◌∷◌, length, ℤ, ◌≤ℤ◌, int_lt, int_le}
use Rattle.region_bands.specs.declared.Interval.{Interval}
use Rattle.region_bands.specs.Bands.{Band}
use Rattle.region_rows.specs.Rows.{row_has}
use Rattle.region_sets.specs.Sets.{in_rows, has}
use Rattle.region_sets.specs.declared.queries.Rectangle.{Rectangle}

-- some column is in both rows
abbrev pub ShareColumn : List Interval → List Interval → Type 0
ShareColumn a b = (x : ℤ) × ((row_has a x && row_has b x) ≡ true)

-- some place is in both
abbrev pub SharePlace : List Band → List Band → Type 0
SharePlace a b = (x : ℤ) × ((y : ℤ) × ((has a x y && has b x y) ≡ true))

-- how many intervals all bands have together
abbrev pub intervals_in_all : List Band → ℕ
intervals_in_all [] = 0
intervals_in_all (b ∷ rest) = length b.row + intervals_in_all rest

-- whether the place is in the rectangle
abbrev pub in_rectangle : Rectangle → ℤ → ℤ → Bool
in_rectangle r x y = in_rows r.rows y && (int_le r.columns.from x && int_lt x r.columns.to)

-- the rectangle holds each place of the bands
abbrev pub HoldsAll : Rectangle → List Band → Type 0
HoldsAll r bands = (x y : ℤ) → has bands x y ≡ true → in_rectangle r x y ≡ true

-- the first rectangle lies in the second
pub record LiesIn (r q : Rectangle) : Type 0 where
  pub top : q.rows.top ≤ℤ r.rows.top
  pub bottom : r.rows.bottom ≤ℤ q.rows.bottom
  pub from : q.columns.from ≤ℤ r.columns.from
  pub to : r.columns.to ≤ℤ q.columns.to

-- the least rectangle that holds the bands
pub record IsBounds (r : Rectangle) (bands : List Band) : Type 0 where
  pub holds : HoldsAll r bands
  pub least : (q : Rectangle) → HoldsAll q bands → LiesIn r q
