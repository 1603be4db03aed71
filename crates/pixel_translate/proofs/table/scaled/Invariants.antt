use Rattle.std.proofs.Common.{◌≡◌, ℕ, ◌<◌, get_or, length}
use Rattle.pixel_translate.specs.Pixel.{component}
use Rattle.pixel_translate.proofs.table.scaled.Given as goal

-- the values below are done
abbrev pub invariant-loop-value : goal.invariant-loop-value
invariant-loop-value l = record {
  long : length l.row ≡ 256;
  done : (k : ℕ) → k < l.value → get_or l.row k 0 ≡ component l.bits l.at k;
}
