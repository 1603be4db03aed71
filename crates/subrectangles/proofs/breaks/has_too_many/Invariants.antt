use Rattle.std.proofs.Common.{◌≤◌, ℕ, ◌+◌, ◌-◌, ◌*◌, length}
use Rattle.std.specs.List.{flat_map, range_with_len}
use Rattle.subrectangles.specs.Subrectangles.{subrectangles_in}
use Rattle.subrectangles.specs.Pixels.{pixel_lines, HasRows}
use Rattle.subrectangles.proofs.breaks.has_too_many.Given as goal

-- each row passed has its subrectangles, and at most as many places of the background as half of its width
abbrev pub invariant-loop-y : goal.invariant-loop-y
invariant-loop-y l = record {
  certain : (b : ℕ) → 2 * l.count ≤ (l.y * l.pixels.colours.width) + (2 * length (flat_map (subrectangles_in b (pixel_lines l.pixels)) (range_with_len 0 l.y)));
  small : l.count ≤ l.y * l.pixels.colours.width;
  rows : HasRows l.pixels (l.y - 1) l.rows;
}
