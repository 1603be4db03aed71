use Rattle.std.proofs.Common.{◌≡◌, ℕ, ◌<◌, ◌≤◌, ◌+◌, ◌-◌, List, length, take}
use Rattle.subrectangles.specs.Subrectangles.{row_at, times}
use Rattle.subrectangles.specs.Scans.{found_before}
use Rattle.encode_hextile.proofs.palette.starts_in.Given as goal

-- at each place counted a subrectangle begins, or it is of the background
abbrev pub invariant-loop-x : goal.invariant-loop-x
invariant-loop-x l = record {
  bound : l.x ≤ 1 + (length l.row - 1);
  few : l.starts + 1 ≤ l.x;
  begin : (rows : List (List ℕ)) (y b : ℕ) → 0 < y → row_at rows y ≡ l.row → row_at rows (y - 1) ≡ l.above → l.starts ≤ length (found_before b rows y l.x) + times b (take l.x l.row);
}
