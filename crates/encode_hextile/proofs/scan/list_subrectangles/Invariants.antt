use Rattle.std.proofs.Common.{◌≡◌, ◌≤◌}
use Rattle.std.specs.List.{flat_map, range_with_len}
use Rattle.arrayvec.specs.ArrayVec.{array_vec_len}
use Rattle.subrectangles.specs.Subrectangles.{subrectangles_in}
use Rattle.subrectangles.specs.Rows.{rows_in}
use Rattle.encode_hextile.specs.Hextile.{subrectangle_bytes}
use Rattle.encode_hextile.proofs.scan.list_subrectangles.Given as goal

-- the subrectangles of the rows passed are there, and there is room for a row's more
abbrev pub invariant-loop-y : goal.invariant-loop-y
invariant-loop-y l = record {
  room : array_vec_len l.list ≤ 1024;
  found : l.list.items ≡ flat_map (subrectangle_bytes l.format l.coloured) (flat_map (subrectangles_in l.background (rows_in l.pixels)) (range_with_len 0 l.y));
}
