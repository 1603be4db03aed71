-- Where the values of a rectangle stand.
use Rattle.std.specs.Prelude.{ℕ, Bool, true, false, List, [], flat_map, map}
use Rattle.subrectangles.specs.declared.lines.Values.{Values}
use Rattle.subrectangles.specs.declared.lines.Values.TheVariants.{Whole, Apart}

-- the values, row behind row
abbrev pub all_in : Values → List ℕ
all_in (Whole values) = values.now
all_in (Apart rows) = flat_map (λ r. r.now) rows.now

-- whether each row stands in a list of its own
abbrev pub are_apart : Values → Bool
are_apart (Whole values) = false
are_apart (Apart rows) = true

-- the rows that do
abbrev pub rows_apart : Values → List (List ℕ)
rows_apart (Whole values) = []
rows_apart (Apart rows) = map (λ r. r.now) rows.now
