use Rattle.std.proofs.Common.{ℕ, ◌<◌, ◌≤◌, get_or}
use Rattle.encode_hextile.proofs.palette.fullest.Given as goal

-- the buckets passed have no more
abbrev pub invariant-loop-count : goal.invariant-loop-count
invariant-loop-count l = (k : ℕ) → k < l.count-index → get_or l.buckets k 0 ≤ l.most
