use Rattle.demo_app.proofs.PrintedLemmas.{loop-judged, loop-written, reported-so}
use Rattle.demo_app.proofs.one_thread.serve_in_one_thread.Goals as goal

pub returns-in-Ok-clause-judged : goal.returns-in-Ok-clause-judged
returns-in-Ok-clause-judged g c = λ check is.
    loop-judged c.args.options.now c.args.besides.forever (g.W.Write.contents c.args.writer.now) (g.W.Write.contents c.written_out.new.writer) c.written_out.result check
    (loop-written c.args.options.now c.args.besides.forever (g.W.Write.contents c.args.writer.now) (g.W.Write.contents c.serve.new.writer) (g.W.Write.contents c.written_out.new.writer) c.in-Ok.status c.written_out.result c.in-Ok.ensures.printed c.written_out.ensures is)

pub returns-in-Ok-clause-printed : goal.returns-in-Ok-clause-printed
returns-in-Ok-clause-printed g c =
    loop-written c.args.options.now c.args.besides.forever (g.W.Write.contents c.args.writer.now) (g.W.Write.contents c.serve.new.writer) (g.W.Write.contents c.written_out.new.writer) c.in-Ok.status c.written_out.result c.in-Ok.ensures.printed c.written_out.ensures

pub returns-in-Err-clause-printed : goal.returns-in-Err-clause-printed
returns-in-Err-clause-printed g c = reported-so _ c.report.result c.report.ensures
