use Rattle.std.proofs.Common.{◌≡◌, ◌≤◌, length}
use Rattle.messages.specs.Partial.{TellSame}
use Rattle.messages.proofs.reading.Reading.short_messages.Given as goal

abbrev pub invariant-loop-left : goal.invariant-loop-left
invariant-loop-left l = record {
  same : TellSame l.fn.self.items.items l.piece l.self.items.items l.left;
  within : length l.left ≤ length l.piece;
  rest : (l.self.phase ≡ l.fn.self.phase) × (l.self.partial ≡ l.fn.self.partial);
}

abbrev pub decreases-loop-left : goal.decreases-loop-left
decreases-loop-left l = length l.left
