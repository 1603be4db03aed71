use Rattle.std.proofs.Common.{◌≡◌, ◌≤◌, length, ◌-◌, take}
use Rattle.c_screen.specs.Desk.{without}
use Rattle.c_screen.proofs.output.drop_output.Given as goal

abbrev pub invariant-loop-i : goal.invariant-loop-i
invariant-loop-i l = record {
  same : without l.viewer l.output.items ≡ without l.viewer l.fn.output.items;
  kept : without l.viewer (take l.i l.output.items) ≡ take l.i l.output.items;
  bound : l.i ≤ length l.output.items;
}

abbrev pub decreases-loop-i : goal.decreases-loop-i
decreases-loop-i l = length l.output.items - l.i
