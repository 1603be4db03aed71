use Rattle.std.proofs.Common.{◌≡◌, drop}
use Rattle.std.specs.Prelude.{◌==◌}
use Rattle.std.specs.List.{list_any}
use Rattle.scene.specs.History.{connects}
use Rattle.receipts.proofs.counting.has_connected.Given as goal

-- none so far, so the rest tells
abbrev pub invariant-loop-event : goal.invariant-loop-event
invariant-loop-event l = list_any (λ v. v == l.viewer) (connects (drop l.event-index l.history)) ≡ list_any (λ v. v == l.viewer) (connects l.history)
