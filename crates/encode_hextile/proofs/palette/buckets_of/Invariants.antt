use Rattle.std.proofs.Common.{ℕ, ◌≤◌, ◌<◌, ◌%◌, take, get_or, length, ◌≡◌}
use Rattle.subrectangles.specs.Subrectangles.{times}
use Rattle.encode_hextile.proofs.palette.buckets_of.Given as goal

-- the pixels passed are in their buckets
abbrev pub invariant-loop-pixel : goal.invariant-loop-pixel
invariant-loop-pixel l = record {
  len : length l.buckets ≡ 251;
  counted : (q : ℕ) → times q (take l.pixel-index l.pixels) ≤ get_or l.buckets (q % 251) 0;
  few : (k : ℕ) → k < 251 → get_or l.buckets k 0 ≤ l.pixel-index;
}
