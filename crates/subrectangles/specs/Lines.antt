-- The rows of a rectangle, as a list.
use Rattle.std.proofs.Common.{ℕ, ◌<◌, ◌≤◌, ◌*◌, List, length, arith}
use Rattle.std.proofs.Math.Nat.{mul-le-mul}
use Rattle.subrectangles.specs.declared.lines.Lines.{Lines}
use Rattle.subrectangles.specs.Laid.{all_in}
use Rattle.subrectangles.specs.Subrectangles.{rows_of}

-- the values, row behind row
abbrev pub values_in : Lines → List ℕ
values_in l = all_in l.values

-- the rows from the top, each from left to right
abbrev pub lines_in : Lines → List (List ℕ)
lines_in l = rows_of l.width l.height (values_in l)

-- there are some places
pub some_values : (l : Lines) → 0 < length (values_in l)
some_values l = let one : 1 * 1 ≤ l.width * l.height = mul-le-mul l.wide l.high in omega (arith, one, l.whole)
