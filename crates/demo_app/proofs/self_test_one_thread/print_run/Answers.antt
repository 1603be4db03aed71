use Rattle.std.proofs.Common.{length, refl, subst}
use Rattle.screen.specs.declared.Config.{Config}
use Rattle.demo_app.specs.Runs.{JudgesOwn}
use Rattle.demo_app.specs.Screens.{own_config}
use Rattle.demo_app.proofs.PrintedLemmas.{prints-own, tells-such}
use Rattle.demo_app.proofs.self_test_one_thread.print_run.Goals as goal

pub returns-clause-printed : goal.returns-clause-printed
returns-clause-printed g c =
    let shows = c.args.shows.now in
    let before = g.W.Write.contents c.args.writer.now in
    let middle = g.W.Write.contents c.print_shows.new.writer in
    let after = g.W.Write.contents c.print_judgement.new.writer in
    let history = c.args.served.now.surface.screen.history in
    let drawn = c.args.drawing.now.drawn.items in
    let receipts = c.args.drawing.now.receipts.items in
    prints-own (length shows) shows (JudgesOwn own_config history drawn receipts) (JudgesOwn own_config history drawn receipts) before middle after c.in_ok-judged.judged c.status_of.result refl (λ j judged. judged)
    c.in_ok-print_shows.ensures
    (tells-such (JudgesOwn own_config history drawn receipts) middle after c.judge-judgement.result c.in_ok-judged.judged
    (subst (λ (k : Config). JudgesOwn k history drawn receipts c.judge-judgement.result) c.in_ok-config.ensures.own c.judge-judgement.ensures) c.in_ok-judged.ensures.printed c.in_ok-judged.ensures.status)
    c.status_of.ensures.status
