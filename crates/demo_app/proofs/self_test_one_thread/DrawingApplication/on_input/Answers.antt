use Rattle.std.proofs.Common.{ap}
use Rattle.demo_app.proofs.LoopLemmas.{own-said}
use Rattle.demo_app.proofs.self_test_one_thread.DrawingApplication.on_input.Goals as goal

pub returns-clause-told : goal.returns-clause-told
returns-clause-told c = λ told was.
    let old = c.args.self.now in
    let now = c.hear.new.self in
    own-said old.drawn.items now.drawn.items old.receipts.items now.receipts.items told c.args._viewer c.args.input.now c.hear.ensures.drawn (ap (λ v. v.items) c.hear.ensures.receipts) was
