-- The rows of a rectangle, as a list.
use Rattle.std.proofs.Common.{ℕ, ◌<◌, ◌≤◌, ◌*◌, List, length, arith}
use Rattle.std.proofs.Math.Nat.{mul-le-mul}
use Rattle.subrectangles.specs.declared.rows.Rows.{Rows}
use Rattle.subrectangles.specs.Subrectangles.{rows_of}

-- the rows from the top, each from left to right
abbrev pub rows_in : Rows → List (List ℕ)
rows_in r = rows_of r.width r.height r.values.now

-- there are some places
pub some_values : (r : Rows) → 0 < length r.values.now
some_values r = let one : 1 * 1 ≤ r.width * r.height = mul-le-mul r.wide r.high in omega (arith, one, r.whole)
