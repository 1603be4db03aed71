use Rattle.std.proofs.Common.{ℕ, ◌<◌, ◌≤◌, get_or}
use Rattle.encode_rre.proofs.greatest.Given as goal

-- none of the colours passed is greater
abbrev pub invariant-loop-colour : goal.invariant-loop-colour
invariant-loop-colour l = (k : ℕ) → k < l.colour-index → get_or l.colours k 0 ≤ l.greatest
