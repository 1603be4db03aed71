use Rattle.std.proofs.Common.{◌≡◌, ℕ, ◌<◌, ◌%◌, ◌^◌, get_or}
use Rattle.framebuffer.proofs.rows.write_places.Given as goal

abbrev pub invariant-loop-i : goal.invariant-loop-i
invariant-loop-i l = (k : ℕ) → k < l.i → get_or l.places k 0 ≡ get_or l.colours k 0 % 2 ^ 24
