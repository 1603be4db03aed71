use Rattle.std.proofs.Common.{subst}
use Rattle.std.specs.Io.KnownBytes.{Appends}
use Rattle.demo_app.specs.Endings.{ends_text}
use Rattle.demo_app.proofs.PrintedLemmas.{prints-judged, prints-ends}
use Rattle.demo_app.proofs.serve.print_run.Goals as goal

pub returns-then-check-clause-printed : goal.returns-then-check-clause-printed
returns-then-check-clause-printed g c =
    prints-judged c.args.check c.args.receipts.items _ (g.W.Write.contents c.args.writer.now) (g.W.Write.contents c.print_ends.new.writer) (g.W.Write.contents c.print_verdict.new.writer) c.print_verdict.result c.if-check.true
    (subst (λ l. Appends (g.W.Write.contents c.args.writer.now) (g.W.Write.contents c.print_ends.new.writer) (ends_text l)) c.deref.ensures.value c.in_ok-print_ends.ensures) c.print_verdict.ensures.finished

pub returns-else-check-clause-printed : goal.returns-else-check-clause-printed
returns-else-check-clause-printed g c =
    prints-ends c.args.check c.args.receipts.items _ (g.W.Write.contents c.args.writer.now) (g.W.Write.contents c.print_ends.new.writer) c.if-check.false
    (subst (λ l. Appends (g.W.Write.contents c.args.writer.now) (g.W.Write.contents c.print_ends.new.writer) (ends_text l)) c.deref.ensures.value c.in_ok-print_ends.ensures)
