use Rattle.std.proofs.Common.{◌≡◌, ℕ, length}
use Rattle.viewer.specs.Hearing.{after_items}
use Rattle.viewer.specs.Viewer.{KeptViewer}
use Rattle.viewer.proofs.hearing.without_inputs.Given as goal

-- what is left makes of each viewer what all make of it
abbrev pub invariant-loop-left : goal.invariant-loop-left
invariant-loop-left l = (w h : ℕ) (v : KeptViewer) → after_items w h l.left v ≡ after_items w h l.items v

abbrev pub decreases-loop-left : goal.decreases-loop-left
decreases-loop-left l = length l.left
