use Rattle.std.proofs.Common.{◌≡◌, drop}
use Rattle.viewer.specs.Hearing.{after_items}
use Rattle.viewer.specs.ViewerStates.{viewer_by}
use Rattle.viewer.specs.Told.{viewer_told}
use Rattle.viewer.proofs.viewer.Viewer.draft_after.Given as goal

-- what is left makes of the viewer now what all make of the viewer before
abbrev pub invariant-loop-item : goal.invariant-loop-item
invariant-loop-item l = after_items l.self.marks.width l.self.marks.height (drop l.item-index l.items) (viewer_by l.self l.draft) ≡ after_items l.self.marks.width l.self.marks.height l.items (viewer_told l.log l.self)
