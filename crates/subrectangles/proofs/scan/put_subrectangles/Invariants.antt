use Rattle.std.proofs.Common.{◌≡◌, ◌++◌, ◌-◌, ◌<◌, length, flat_map}
use Rattle.std.specs.List.{range_with_len}
use Rattle.subrectangles.specs.Bytes.{subrectangle_bytes}
use Rattle.subrectangles.specs.Subrectangles.{subrectangles_in}
use Rattle.subrectangles.specs.Pixels.{pixel_lines, HasRows}
use Rattle.subrectangles.proofs.scan.put_subrectangles.Given as goal

-- the subrectangles of the rows passed are there
abbrev pub invariant-loop-y : goal.invariant-loop-y
invariant-loop-y l = record {
  found : l.out.items ≡ l.fn.out.items ++ flat_map (subrectangle_bytes l.format) (flat_map (subrectangles_in l.background (pixel_lines l.pixels)) (range_with_len 0 l.y));
  short : 0 < l.y → length l.out.items < l.end;
  rows : HasRows l.pixels (l.y - 1) l.rows;
  room : l.pixels.colours.width < length l.starts.items;
}
