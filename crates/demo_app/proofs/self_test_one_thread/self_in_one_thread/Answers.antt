use Rattle.demo_app.proofs.PrintedLemmas.{own-written, reported-so}
use Rattle.demo_app.proofs.self_test_one_thread.self_in_one_thread.Goals as goal

pub returns-in-Ok-clause-printed : goal.returns-in-Ok-clause-printed
returns-in-Ok-clause-printed g c =
    own-written c.args.viewers _ (g.W.Write.contents c.args.writer.now) (g.W.Write.contents c.own.new.writer) (g.W.Write.contents c.written_out.new.writer) c.in-Ok.status c.written_out.result c.in-Ok.ensures.printed c.written_out.ensures

pub returns-in-Err-clause-printed : goal.returns-in-Err-clause-printed
returns-in-Err-clause-printed g c = reported-so _ c.report.result c.report.ensures
