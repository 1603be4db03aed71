use Rattle.std.proofs.Common.{◌≡◌, ℕ, ◌<◌, ◌≤◌, ◌%◌, ◌^◌, get_or}
use Rattle.framebuffer.proofs.rows.clear_top_bytes.Given as goal

-- the first i are cleared
abbrev pub invariant-loop-i : goal.invariant-loop-i
invariant-loop-i l = record {
  done : (k : ℕ) → k < l.i → get_or l.places k 0 ≡ get_or l.fn.places k 0 % 2 ^ 24;
  rest : (k : ℕ) → l.i ≤ k → get_or l.places k 0 ≡ get_or l.fn.places k 0;
}
