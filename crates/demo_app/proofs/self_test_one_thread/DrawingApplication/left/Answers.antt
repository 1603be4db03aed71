use Rattle.std.proofs.Common.{ap}
use Rattle.demo_app.proofs.LoopLemmas.{own-left, own-refused}
use Rattle.demo_app.proofs.self_test_one_thread.DrawingApplication.left.Goals as goal

pub returns-in_err-keep_receipt-clause-refused : goal.returns-in_err-keep_receipt-clause-refused
returns-in_err-keep_receipt-clause-refused c =
    let old = c.args.self.now in
    let now = c.keep_receipt.new.self in
    own-refused c.from_residual.result old.drawn.items now.drawn.items old.receipts.items now.receipts.items (ap (λ v. v.items) c.keep_receipt.ensures.drawn) c.in_err-keep_receipt.ensures.refused

pub returns-clause-told : goal.returns-clause-told
returns-clause-told c = λ told was.
    let old = c.args.self.now in
    let now = c.keep_receipt.new.self in
    own-left old.drawn.items now.drawn.items old.receipts.items now.receipts.items told c.args.receipt (ap (λ v. v.items) c.keep_receipt.ensures.drawn) c.in_ok-keep_receipt.ensures.kept was
