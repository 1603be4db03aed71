use Rattle.std.proofs.Common.{◌≡◌, ◌+◌, ◌≤◌, ◌++◌, length, drop}
use Rattle.receipts.specs.Histories.{pieces_of, heard_of}
use Rattle.receipts.proofs.counting.pieces_of.Given as goal

-- what was found so far and what the rest has are all
abbrev pub invariant-loop-event : goal.invariant-loop-event
invariant-loop-event l = record {
  few : l.count ≤ l.event-index;
  counted : l.count + length (pieces_of l.viewer (drop l.event-index l.history)) ≡ length (pieces_of l.viewer l.history);
  heard : l.heard.items ++ heard_of l.viewer (drop l.event-index l.history) ≡ heard_of l.viewer l.history;
}
