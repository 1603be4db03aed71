use Rattle.std.proofs.Common.{◌≤◌, ◌<◌, ℕ, ◌+◌, ◌-◌, ◌*◌, ◌%◌, length, get_or}
use Rattle.std.specs.List.{flat_map, range_with_len}
use Rattle.subrectangles.specs.Subrectangles.{subrectangles_in}
use Rattle.subrectangles.specs.Pixels.{pixel_lines, HasRows}
use Rattle.subrectangles.proofs.breaks.has_too_many_kinds.Given as goal

-- each row passed has its subrectangles, and those that may be of the background are in its bucket
abbrev pub invariant-loop-y : goal.invariant-loop-y
invariant-loop-y l = record {
  certain : (b : ℕ) → l.count ≤ get_or l.buckets (b % 251) 0 + length (flat_map (subrectangles_in b (pixel_lines l.pixels)) (range_with_len 0 l.y));
  small : l.count ≤ l.y * l.pixels.colours.width;
  rows : HasRows l.pixels (l.y - 1) l.rows;
  each : (k : ℕ) → k < 251 → get_or l.buckets k 0 ≤ l.y * l.pixels.colours.width;
}
