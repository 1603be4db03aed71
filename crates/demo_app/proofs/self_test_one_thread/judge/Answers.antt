use Rattle.std.proofs.Common.{sym, ap, ◌∙◌}
use Rattle.screen.specs.State.{State}
use Rattle.demo_app.proofs.LoopLemmas.{check-both, judges-own, judges-own-none}
use Rattle.demo_app.proofs.self_test_one_thread.judge.Goals as goal

pub returns-in-Some : goal.returns-in-Some
returns-in-Some c =
    judges-own c.args.config.now c.args.served.now.surface.screen.history c.args.drawing.now.drawn.items c.args.drawing.now.receipts.items c.check.result c.in-Some.history.now (ap (λ (s : State). s.history) (sym c.screen.ensures) ∙ sym c.in-Some.ensures.kept)
    (check-both c.args.config.now c.in-Some.history.now c.deref.result.now c.args.drawing.now.drawn.items c.deref-in-Some.result.now c.args.drawing.now.receipts.items c.check.result c.deref.ensures.value c.deref-in-Some.ensures.value
    (record { checked = c.check.ensures.checked; report = c.check.ensures.report; refusal = c.check.ensures.refusal }))

pub returns-in-None : goal.returns-in-None
returns-in-None c = judges-own-none _ _ _ _ (ap (λ (s : State). s.history) (sym c.screen.ensures) ∙ sym c.in-None.ensures.kept)
