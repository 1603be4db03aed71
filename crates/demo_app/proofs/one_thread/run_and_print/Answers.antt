use Rattle.std.proofs.Common.{ℕ, List, [], Option, IfOk, subst}
use Rattle.screen.specs.declared.Config.{Config}
use Rattle.connections.specs.Serving.{Serves}
use Rattle.event_loop.specs.Sockets.{sockets_and}
use Rattle.event_loop.proofs.Steps.{tells-all}
use Rattle.demo_app.specs.Application.{KeepsTold, kept_in}
use Rattle.demo_app.specs.Endings.{PrintsOf}
use Rattle.demo_app.specs.Runs.{JudgesLoop}
use Rattle.demo_app.proofs.LoopLemmas.{prints-loop}
use Rattle.demo_app.proofs.one_thread.run_and_print.Goals as goal

pub returns-in-Ok-clause-printed : goal.returns-in-Ok-clause-printed
returns-in-Ok-clause-printed g c =
    let o = c.args.options.now in
    let w = g.S.Options.width in
    let h = g.S.Options.height in
    let forever = g.S.Options.forever in
    let x = c.args.showing.now in
    let y = c.run_to_end.new.application in
    let receipts = c.print_run.new.showing.receipts.items in
    let before = g.W.Write.contents c.args.writer.now in
    let after = g.W.Write.contents c.print_run.new.writer in
    prints-loop (λ s. s.easel) (λ s. s.drawn) (λ s. s.viewers) (λ s. s.receipts.items) o w h forever x y c.args.served.now c.run_to_end.new.served receipts before after c.print_run.result c.requires.width c.requires.height
    (subst (λ (k : Config). (held : Option (Option (List ℕ))) × Serves k (sockets_and held k) [] c.args.served.now) c.requires.config c.requires.serves) c.requires.told c.requires.ends c.requires.receipts
    (tells-all (λ s told. KeepsTold w h forever s.easel s.drawn s.viewers s.receipts.items told) x y c.run_to_end.result _ _ _ c.in-Ok.is c.run_to_end.ensures.served) c.print_run.ensures.permutation c.print_run.ensures.sorted
    (subst (λ (k : Config). IfOk c.print_run.result (PrintsOf o.check receipts (JudgesLoop k c.run_to_end.new.served.surface.screen.history (kept_in y.drawn) receipts) before after)) c.requires.config c.print_run.ensures.printed)
