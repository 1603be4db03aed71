use Rattle.std.proofs.Common.{ℕ, List, Option, ◌∙◌, subst, ap}
use Rattle.std.specs.Io.KnownBytes.{Appends}
use Rattle.screen.specs.declared.Config.{Config}
use Rattle.update_sender.specs.Finishing.{Finishes}
use Rattle.demo_app.specs.Endings.{shows_text, status_where}
use Rattle.demo_app.specs.Runs.{IsOwnFinish}
use Rattle.demo_app.proofs.PrintedLemmas.{prints-own}
use Rattle.demo_app.proofs.self_test.own.Goals as goal

pub returns-clause-printed : goal.returns-clause-printed
returns-clause-printed g c =
    let shows = c.in_ok-shows.field-0.shows.items in
    let receipts = c.in_ok-shows.field-0.receipts.items in
    let before = g.W.Write.contents c.args.writer.now in
    let middle = g.W.Write.contents c.print_shows.new.writer in
    prints-own c.args.viewers shows _ (IsOwnFinish c.args.viewers) before middle (g.W.Write.contents c.print_verdict.new.writer) c.in_ok-judged.judged c.status_of.result c.in_ok-shows.ensures.shows
    (λ j finishes. (receipts, c.run_with_viewers.new.brush, c.in_ok-shows.ensures.receipts, subst (λ (k : Config). Finishes k c.run_with_viewers.new.brush receipts j) (c.in-Ok.ensures.shared ∙ c.in_ok-config.ensures.own) finishes))
    (subst (λ l. Appends before middle (shows_text 1 l)) c.deref.ensures.value c.in_ok-print_shows.ensures) c.in_ok-judged.ensures.finished (c.status_of.ensures.status ∙ ap (λ l. status_where l c.in_ok-judged.judged) c.deref-2.ensures.value)
