use Rattle.std.proofs.Common.{sym, ap, ◌∙◌}
use Rattle.std.specs.Prelude.{option_map}
use Rattle.receipts.specs.declared.Ended.TheVariants.{Gate}
use Rattle.connections.specs.Serving.{Serving, at_key, number_at}
use Rattle.connection.specs.Connection.{ended_by}
use Rattle.event_loop.proofs.event_loop.EventLoop.close_viewer.Goals as goal

pub returns-clause-let_go : goal.returns-clause-let_go
returns-clause-let_go c =
    let key = c.in-Some.key in
    let is = c.self.view_is in
    λ yes. (
      key,
      ap (λ (s : Serving). number_at s.slots key) (sym is) ∙ c.in-Some.ensures.found,
      c.in_ok-refuse.ensures.ended ∙ ap (λ (s : Serving). option_map (ended_by Gate) (at_key s.slots key)) is,
      λ other away. c.refuse.ensures.others other away ∙ ap (λ (s : Serving). at_key s.slots other) is,
    )
