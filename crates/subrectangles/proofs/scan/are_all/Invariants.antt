use Rattle.std.proofs.Common.{◌≡◌, ℕ, ◌<◌, ◌≤◌, get_or}
use Rattle.subrectangles.proofs.scan.are_all.Given as goal

-- where none is another, the pixels passed are the one, and the other way round
abbrev pub invariant-loop-other : goal.invariant-loop-other
invariant-loop-other l = record {
  none : l.others ≡ 0 → (k : ℕ) → k < l.other-index → get_or l.pixels k 0 ≡ l.pixel;
  all : ((k : ℕ) → k < l.other-index → get_or l.pixels k 0 ≡ l.pixel) → l.others ≡ 0;
  small : l.others ≤ l.other-index;
}
