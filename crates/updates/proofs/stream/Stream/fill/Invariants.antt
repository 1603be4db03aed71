use Rattle.std.proofs.Common.{◌≡◌, ◌≤◌, ◌++◌, length}
use Rattle.updates.proofs.stream.Stream.fill.Given as goal

-- what is in the buffer and what is left are what was left
abbrev pub invariant-loop-self : goal.invariant-loop-self
invariant-loop-self l = record {
  bytes : l.buffer.items ++ l.self ≡ l.fn.self;
  bound : length l.buffer.items ≤ 65536;
}

abbrev pub decreases-loop-self : goal.decreases-loop-self
decreases-loop-self l = length l.self
