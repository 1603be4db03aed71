use Rattle.demo_app.proofs.LoopLemmas.{keeps-left, keeps-refused}
use Rattle.demo_app.proofs.one_thread.ShowingApplication.left.Goals as goal

pub returns-in_err-keep_receipt-clause-refused : goal.returns-in_err-keep_receipt-clause-refused
returns-in_err-keep_receipt-clause-refused g c =
    let old = c.args.self.now in
    let now = c.keep_receipt.new.self in
    keeps-refused c.from_residual.result g.S.Options.width g.S.Options.height g.S.Options.forever old.easel now.easel old.drawn now.drawn old.viewers now.viewers old.receipts.items now.receipts.items
    c.keep_receipt.ensures.easel c.keep_receipt.ensures.drawn c.keep_receipt.ensures.viewers c.in_err-keep_receipt.ensures.refused

pub returns-clause-told : goal.returns-clause-told
returns-clause-told g c = λ told was.
    let old = c.args.self.now in
    let now = c.keep_receipt.new.self in
    keeps-left g.S.Options.width g.S.Options.height g.S.Options.forever old.easel now.easel old.drawn now.drawn old.viewers now.viewers old.receipts.items now.receipts.items told c.args.receipt
    c.keep_receipt.ensures.easel c.keep_receipt.ensures.drawn c.keep_receipt.ensures.viewers c.in_ok-keep_receipt.ensures.kept c.keep_receipt.ensures.none was
