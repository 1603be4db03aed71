-- One step of a walk over two rows.
use Rattle.std.specs.Prelude.{Bool, true, false, not, cond, List, [], ◌∷◌, ◌++◌, ℤ, pos, int_lt, int_le, Option, Some, None}
use mathlib.Core.Bool.{beq}
use Rattle.region_bands.specs.declared.Interval.{Interval}
use Rattle.region_rows.specs.declared.Keep.{Keep}
use Rattle.region_rows.specs.declared.steps.Step.{Step}
use Rattle.region_rows.specs.declared.steps.Common.{Common}
use Rattle.region_rows.specs.Rows.{keeps_place}

-- where the interval begins, or where it ends if it has begun by x
abbrev pub edge_of : ℤ → Interval → ℤ
edge_of x i = cond (int_le i.from x) i.to i.from

abbrev pub nearer : ℤ → ℤ → ℤ
nearer a b = cond (int_lt a b) a b

-- the step from x on, of two rows by their first intervals
abbrev pub next_step : ℤ → Option Interval → Option Interval → Option Step
next_step x None None = None
next_step x None (Some j) = Some (record { edge = edge_of x j; in_first = false; in_second = int_le j.from x })
next_step x (Some i) None = Some (record { edge = edge_of x i; in_first = int_le i.from x; in_second = false })
next_step x (Some i) (Some j) = Some (record { edge = nearer (edge_of x i) (edge_of x j); in_first = int_le i.from x; in_second = int_le j.from x })

-- where the first of two rows begins
abbrev pub start_of : Option Interval → Option Interval → ℤ
start_of None None = pos 0
start_of None (Some j) = j.from
start_of (Some i) None = i.from
start_of (Some i) (Some j) = nearer i.from j.from

-- the row without its first interval, if that ends by the edge
abbrev pub later : ℤ → List Interval → List Interval
later edge [] = []
later edge (i ∷ rest) = cond (int_le i.to edge) rest (i ∷ rest)

-- the row with the interval that was open, if one was
abbrev pub closed : Bool → Interval → List Interval → List Interval
closed true i row = row ++ i ∷ []
closed false i row = row

-- the step from x on of two pairs of rows, by each pair's step: how far all four are the same, and whether the pairs agree there
abbrev pub common_step : Keep → Option Step → Option Step → Option Common
common_step keep None None = None
common_step keep (Some s) None = Some (record { edge = s.edge; agrees = not (keeps_place keep s.in_first s.in_second) })
common_step keep None (Some t) = Some (record { edge = t.edge; agrees = not (keeps_place keep t.in_first t.in_second) })
common_step keep (Some s) (Some t) = Some (record { edge = nearer s.edge t.edge; agrees = beq (keeps_place keep s.in_first s.in_second) (keeps_place keep t.in_first t.in_second) })
