use Rattle.std.proofs.Common.{sym, ap, ◌∙◌}
use Rattle.screen.specs.State.{State}
use Rattle.demo_app.specs.Application.{kept_in}
use Rattle.demo_app.proofs.LoopLemmas.{check-both, judges-kept, judges-none}
use Rattle.demo_app.proofs.one_thread.judge.Goals as goal

pub returns-in_default : goal.returns-in_default
returns-in_default g c = judges-none _ _ _ _ (ap (λ (s : State). s.history) (sym c.screen.ensures) ∙ sym c.in_default.ensures.kept)

pub returns : goal.returns
returns g c =
    let events = c.in-Some.history.now in
    let calls = c.in-Some-drawn.drawn.items in
    let receipts = c.args.showing.now.receipts.items in
    judges-kept c.args.config.now c.args.served.now.surface.screen.history (kept_in c.args.showing.now.drawn) receipts c.check.result events calls (ap (λ (s : State). s.history) (sym c.screen.ensures) ∙ sym c.in-Some.ensures.kept) (ap kept_in c.in-Some-drawn.is)
    (check-both c.args.config.now events c.deref.result.now calls c.deref-2.result.now receipts c.check.result c.deref.ensures.value c.deref-2.ensures.value
    (record { checked = c.check.ensures.checked; report = c.check.ensures.report; refusal = c.check.ensures.refusal }))
