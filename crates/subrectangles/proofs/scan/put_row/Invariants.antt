use Rattle.std.proofs.Common.{◌≡◌, ◌<◌, ◌++◌, true, get_or, flat_map}
use Rattle.subrectangles.specs.Bytes.{subrectangle_bytes}
use Rattle.subrectangles.specs.Subrectangles.{row_at, begins_run}
use Rattle.subrectangles.specs.Scans.{found_before}
use Rattle.subrectangles.specs.Pixels.{pixel_lines}
use Rattle.subrectangles.proofs.scan.put_row.Given as goal

-- a run begins at the next start, and the subrectangles that begin before it are there
abbrev pub invariant-loop-k : goal.invariant-loop-k
invariant-loop-k l = record {
  begins : l.k < l.count → begins_run (row_at (pixel_lines l.pixels) l.y) (get_or l.starts l.k 0) ≡ true;
  found : l.out.items ≡ l.fn.out.items ++ flat_map (subrectangle_bytes l.format) (found_before l.background (pixel_lines l.pixels) l.y (get_or l.starts l.k 0));
}
