use Rattle.std.proofs.Common.{sym, ap, ◌∙◌}
use Rattle.scene.specs.History.{connects}
use Rattle.receipts.specs.Checking.{stranger}
use Rattle.receipts.proofs.Reading.{left_is}
use Rattle.receipts.proofs.Missed.{stranger-here, stranger-later}
use Rattle.receipts.proofs.counting.stranger.Goals as goal

pub returns-then-not-has_connected : goal.returns-then-not-has_connected
returns-then-not-has_connected c =
    let vs = connects c.args.history.now in
    let left = left_is c.args.receipts.now c.loop-receipt.receipt-index c.receipt-item.result c.loop-receipt-test.true c.receipt-item.is in
    sym (stranger-here vs c.receipt-item.result _ (sym c.has_connected.ensures ∙ c.if-not-has_connected.true)) ∙ ap (stranger vs) (sym left) ∙ c.loop-receipt.invariant

pub loop-receipt-preserved : goal.loop-receipt-preserved
loop-receipt-preserved c =
    let vs = connects c.args.history.now in
    let left = left_is c.args.receipts.now c.loop-receipt.receipt-index c.receipt-item.result c.loop-receipt-test.true c.receipt-item.is in
    sym (stranger-later vs c.receipt-item.result _ (sym c.has_connected.ensures ∙ c.if-not-has_connected.false)) ∙ ap (stranger vs) (sym left) ∙ c.loop-receipt.invariant
