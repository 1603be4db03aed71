use Rattle.std.proofs.Common.{length, ap, ◌∙◌}
use Rattle.demo_app.proofs.LoopLemmas.{own-checked}
use Rattle.demo_app.proofs.self_test_one_thread.run_and_judge.Goals as goal

pub returns-clause-printed : goal.returns-clause-printed
returns-clause-printed g c =
    let run = c.in_ok-run.run' in
    own-checked (length c.args.streams.now) (length c.deref.result.now) c.args.served run.served run.drawing.drawn.items run.drawing.receipts.items c.sort_receipts.new.receipts.items
    (g.W.Write.contents c.args.writer.now) (g.W.Write.contents c.print_run.new.writer) c.print_run.result (ap (λ l. length l) c.deref.ensures.value ∙ c.in_ok-run.ensures.shows)
    c.requires.serves c.in_ok-run.ensures.served c.sort_receipts.ensures.permutation c.sort_receipts.ensures.sorted c.print_run.ensures.printed
