use Rattle.std.proofs.Common.{◌≡◌, ◌≤◌, ◌+◌, ◌-◌, drop, length}
use Rattle.c_screen.specs.Desk.{has_output, first_index}
use Rattle.c_screen.proofs.output.first_for.Given as goal

abbrev pub invariant-loop-i : goal.invariant-loop-i
invariant-loop-i l = record {
  some : has_output l.viewer (drop l.i l.output) ≡ has_output l.viewer l.output;
  first : l.i + first_index l.viewer (drop l.i l.output) ≡ first_index l.viewer l.output;
  bound : l.i ≤ length l.output;
}

abbrev pub decreases-loop-i : goal.decreases-loop-i
decreases-loop-i l = length l.output - l.i
