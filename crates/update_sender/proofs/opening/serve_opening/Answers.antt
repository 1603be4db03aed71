use Rattle.std.proofs.Common.{ap, sym, ◌∙◌}
use Rattle.receipts.specs.declared.Receipt.{Receipt}
use Rattle.update_sender.specs.Ends.{Listening, Speaking}
use Rattle.update_sender.proofs.Served.{hears-one-viewer}
use Rattle.update_sender.proofs.opening.serve_opening.Goals as goal

pub returns-in-Ok-clause-viewer : goal.returns-in-Ok-clause-viewer
returns-in-Ok-clause-viewer g c =
    let line = ap (λ (l : Listening). l.viewer) c.ends-listener.ensures.listener in (
      hears-one-viewer _ _ _ _ _ c.in-Ok.ensures.heard ∙ line,
      ap (λ (s : Speaking). s.viewer) c.in-Ok.ensures.sent.1.1 ∙ sym c.ends-listener.ensures.viewer ∙ line,
    )

pub returns-clause-viewer : goal.returns-clause-viewer
returns-clause-viewer g c =
    let own = hears-one-viewer _ _ _ _ _ c.in-Err.ensures.heard.1 ∙ ap (λ (l : Listening). l.viewer) c.ends-listener.ensures.listener in
    (ap (λ (r : Receipt). r.viewer) c.receipt_of.ensures ∙ own, c.part-parting.ensures ∙ c.viewer.ensures ∙ own)
