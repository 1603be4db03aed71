use Rattle.std.proofs.Common.{◌≡◌, drop}
use Rattle.receipts.specs.Checking.{all_sent}
use Rattle.receipts.proofs.Joined.{joined}
use Rattle.receipts.proofs.checking.all_sent.Given as goal

-- what was told so far and what the rest tells are the answer
abbrev pub invariant-loop-receipt : goal.invariant-loop-receipt
invariant-loop-receipt l = joined l.viewers (all_sent l.config l.history (drop l.receipt-index l.receipts)) ≡ all_sent l.config l.history l.receipts
