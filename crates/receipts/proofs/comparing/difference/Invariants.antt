use Rattle.std.proofs.Common.{◌≡◌, nat_eq, ◌≤◌, length, drop}
use Rattle.receipts.specs.Differences.{difference}
use Rattle.receipts.proofs.Differing.{later}
use Rattle.receipts.proofs.comparing.difference.Given as goal

-- the lists agree so far, and the rest tells where they differ
abbrev pub invariant-loop-i : goal.invariant-loop-i
invariant-loop-i l = record {
  within : l.i ≤ length l.b;
  rest : later l.i (difference nat_eq (drop l.i l.a) (drop l.i l.b)) ≡ difference nat_eq l.a l.b;
}
