use Rattle.std.proofs.Common.{subst}
use Rattle.std.specs.Io.KnownBytes.{Appends}
use Rattle.demo_app.specs.Endings.{ends_text}
use Rattle.demo_app.proofs.JudgedLemmas.{judged_here, judged_last}
use Rattle.demo_app.proofs.PrintedLemmas.{prints-ends, prints-told, widened}
use Rattle.demo_app.proofs.one_thread.print_run.Goals as goal

pub returns-then-options-clause-status : goal.returns-then-options-clause-status
returns-then-options-clause-status g c = widened c.print_judgement.result c.print_judgement.ensures.either

pub returns-then-options-clause-judged : goal.returns-then-options-clause-judged
returns-then-options-clause-judged g c check =
    judged_last (g.W.Write.contents c.args.writer.now) (g.W.Write.contents c.print_ends.new.writer) (g.W.Write.contents c.print_judgement.new.writer) _ c.print_judgement.result c.in_ok-print_ends.ensures
    (judged_here (g.W.Write.contents c.print_ends.new.writer) (g.W.Write.contents c.print_judgement.new.writer) c.print_judgement.result c.judge-judgement.result c.print_judgement.ensures.printed c.print_judgement.ensures.status)

pub returns-then-options-clause-printed : goal.returns-then-options-clause-printed
returns-then-options-clause-printed g c =
    prints-told c.args.options.now.check _ _ (g.W.Write.contents c.args.writer.now) (g.W.Write.contents c.print_ends.new.writer) (g.W.Write.contents c.print_judgement.new.writer) c.print_judgement.result c.judge-judgement.result c.if-options.true
    (subst (λ l. Appends (g.W.Write.contents c.args.writer.now) (g.W.Write.contents c.print_ends.new.writer) (ends_text l)) c.deref.ensures.value c.in_ok-print_ends.ensures)
    c.judge-judgement.ensures c.print_judgement.ensures.printed c.print_judgement.ensures.status

pub returns-clause-printed : goal.returns-clause-printed
returns-clause-printed g c =
    prints-ends c.args.options.now.check _ _ (g.W.Write.contents c.args.writer.now) (g.W.Write.contents c.print_ends.new.writer) c.if-options.false
    (subst (λ l. Appends (g.W.Write.contents c.args.writer.now) (g.W.Write.contents c.print_ends.new.writer) (ends_text l)) c.deref.ensures.value c.in_ok-print_ends.ensures)
