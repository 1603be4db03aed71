use Rattle.std.proofs.Common.{◌≡◌, ℕ, ◌<◌, get_or}
use Rattle.subrectangles.specs.Subrectangles.{times}
use Rattle.encode_hextile.proofs.Palettes.{Loses}
use Rattle.encode_hextile.proofs.palette.most_frequent.Given as goal

-- none of the pixels passed is a better background than best
abbrev pub invariant-loop-p : goal.invariant-loop-p
invariant-loop-p l = record {
  count : l.most ≡ times l.best l.pixels;
  some : 0 < l.most;
  loses : (k : ℕ) → k < l.p-index → Loses l.pixels l.best l.most (get_or l.pixels k 0);
}
