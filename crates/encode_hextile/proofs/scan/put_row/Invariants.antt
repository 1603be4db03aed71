use Rattle.std.proofs.Common.{◌≡◌, ◌<◌, ◌≤◌, ◌+◌, ◌-◌, ◌*◌, ◌++◌, true}
use Rattle.std.specs.List.{flat_map}
use Rattle.arrayvec.specs.ArrayVec.{array_vec_len}
use Rattle.subrectangles.specs.Subrectangles.{row_at, begins_run}
use Rattle.subrectangles.specs.Scans.{found_before}
use Rattle.subrectangles.specs.Rows.{rows_in}
use Rattle.encode_hextile.specs.Hextile.{subrectangle_bytes}
use Rattle.encode_hextile.proofs.scan.put_row.Given as goal

-- a run begins at x, and the subrectangles that begin before it are there
abbrev pub invariant-loop-x : goal.invariant-loop-x
invariant-loop-x l = record {
  within : l.x ≤ l.pixels.width;
  begins : l.x < l.pixels.width → begins_run (row_at (rows_in l.pixels) l.y) l.x ≡ true;
  room : array_vec_len l.list ≤ array_vec_len l.fn.list + 6 * l.x;
  found : l.list.items ≡ l.fn.list.items ++ flat_map (subrectangle_bytes l.format l.coloured) (found_before l.background (rows_in l.pixels) l.y l.x);
}

abbrev pub decreases-loop-x : goal.decreases-loop-x
decreases-loop-x l = l.pixels.width - l.x
