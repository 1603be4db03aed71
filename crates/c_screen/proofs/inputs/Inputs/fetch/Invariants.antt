use Rattle.std.proofs.Common.{◌≡◌, length, ◌-◌}
use Rattle.c_screen.specs.Inputs.{in_order}
use Rattle.c_screen.proofs.Fetching.{Fetching}
use Rattle.c_screen.proofs.inputs.Inputs.fetch.Given as goal

abbrev pub invariant-loop-count : goal.invariant-loop-count
invariant-loop-count l = record {
  so : Fetching (in_order l.fn.self.next l.fn.self.later.items) (in_order l.self.next l.self.later.items) l.fn.room l.room l.fn.text l.count;
  size : length l.room ≡ length l.fn.room;
  text : l.text ≡ l.fn.text;
}

abbrev pub decreases-loop-count : goal.decreases-loop-count
decreases-loop-count l = length l.initial.room - l.count
