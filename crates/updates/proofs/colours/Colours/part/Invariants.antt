use Rattle.std.proofs.Common.{◌≡◌, ◌-◌, ◌≤◌, length, take, drop}
use Rattle.updates.proofs.colours.Colours.part.Given as goal

-- what was taken is the first of the colours that are asked for
abbrev pub invariant-loop-part : goal.invariant-loop-part
invariant-loop-part l = record {
  first : l.part.items ≡ take (length l.part.items) (drop l.from l.self);
  within : length l.part.items ≤ l.count;
}

abbrev pub decreases-loop-part : goal.decreases-loop-part
decreases-loop-part l = l.count - length l.part.items
