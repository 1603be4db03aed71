use Rattle.std.proofs.Common.{sym, subst, ℕ, List, All}
use Rattle.std.specs.Map.{values_of}
use Rattle.copy_schedule.specs.Log.{IsCutEntry}
use Rattle.viewer.specs.Viewer.{KeptViewer}
use Rattle.scene.proofs.drawing.tell.Goals as goal

pub commit-requires-clause-cut : goal.commit-requires-clause-cut
commit-requires-clause-cut c = subst (λ (ps : List (ℕ × KeptViewer)). All (λ (v : KeptViewer). IsCutEntry v.marks.width v.marks.height c.args.call) (values_of ps)) (sym c.prepare.ensures.same) c.requires.cut
