use Rattle.std.proofs.Common.{ℕ, ◌≤◌, ◌+◌, ◌-◌, ◌*◌, length, take}
use Rattle.std.specs.List.{flat_map, range_with_len}
use Rattle.subrectangles.specs.Subrectangles.{times, subrectangles_in}
use Rattle.subrectangles.specs.Rows.{rows_in}
use Rattle.encode_hextile.proofs.palette.starts_of.Given as goal

-- the rows passed have so many, but for those of the background
abbrev pub invariant-loop-y : goal.invariant-loop-y
invariant-loop-y l = record {
  counted : (b : ℕ) → l.starts ≤ length (flat_map (subrectangles_in b (rows_in l.pixels)) (range_with_len 0 l.y)) + times b (take (l.y * l.pixels.width) l.pixels.values.now);
  bound : l.y ≤ 1 + (l.pixels.height - 1);
  few : l.starts ≤ 16 * (l.y - 1);
}
