use Rattle.std.proofs.Common.{drop, ap, ◌∙◌}
use Rattle.connection.specs.Waiting.{waiting_bytes}
use Rattle.connection.proofs.Pieces.{started}
use Rattle.connection.proofs.backlog.Backlog.start.Goals as goal

pub returns-clause-bytes : goal.returns-clause-bytes
returns-clause-bytes c =
    let i = c.self.inside in
    started (record { made = drop i.done i.made.items; update = i.update; behind = i.behind.items }) c.into_stream.result (ap waiting_bytes c.self.view_is ∙ c.requires.none) ∙ c.into_stream.ensures
