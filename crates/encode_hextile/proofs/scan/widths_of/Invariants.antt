use Rattle.std.proofs.Common.{◌≡◌, ℕ, ◌<◌, ◌≤◌, ◌-◌, length, get_or}
use Rattle.subrectangles.specs.Subrectangles.{stretch}
use Rattle.encode_hextile.proofs.scan.widths_of.Given as goal

-- the k last places are known, and the first of them is at hand
abbrev pub invariant-loop-k : goal.invariant-loop-k
invariant-loop-k l = record {
  len : length l.widths ≡ 16;
  few : l.width ≤ l.k;
  first : 0 < l.k → (l.after ≡ get_or l.row (length l.row - l.k) 0) × (l.width ≡ stretch l.row (length l.row - l.k));
  known : (x : ℕ) → length l.row - l.k ≤ x → x < length l.row → get_or l.widths x 0 ≡ stretch l.row x;
}
