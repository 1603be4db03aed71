use Rattle.std.proofs.Common.{◌≡◌, drop}
use Rattle.scene.specs.History.{connects}
use Rattle.receipts.specs.Checking.{stranger}
use Rattle.receipts.proofs.counting.stranger.Given as goal

-- none so far, so the rest tells
abbrev pub invariant-loop-receipt : goal.invariant-loop-receipt
invariant-loop-receipt l = stranger (connects l.history) (drop l.receipt-index l.receipts) ≡ stranger (connects l.history) l.receipts
