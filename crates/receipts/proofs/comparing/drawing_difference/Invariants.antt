use Rattle.std.proofs.Common.{◌≡◌, ◌≤◌, length, drop}
use Rattle.scene.specs.History.{drawings}
use Rattle.receipts.specs.Differences.{difference, same_event}
use Rattle.receipts.proofs.Differing.{later}
use Rattle.receipts.proofs.comparing.drawing_difference.Given as goal

-- the drawing calls agree so far, and the rest tells where they differ
abbrev pub invariant-loop-event : goal.invariant-loop-event
invariant-loop-event l = record {
  within : l.at ≤ length l.drawn;
  few : l.at ≤ l.event-index;
  rest : later l.at (difference same_event (drawings (drop l.event-index l.history)) (drop l.at l.drawn)) ≡ difference same_event (drawings l.history) l.drawn;
}
