use Rattle.std.proofs.Common.{◌≡◌, drop}
use Rattle.scene.specs.History.{connects}
use Rattle.receipts.specs.Checking.{without_one}
use Rattle.receipts.proofs.counting.without_one.Given as goal

-- none so far, so the rest tells
abbrev pub invariant-loop-event : goal.invariant-loop-event
invariant-loop-event l = without_one (connects (drop l.event-index l.history)) l.receipts ≡ without_one (connects l.history) l.receipts
