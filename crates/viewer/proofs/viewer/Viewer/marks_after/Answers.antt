use Rattle.std.proofs.Common.{sym, subst}
use Rattle.std.specs.List.{All}
use Rattle.copy_schedule.specs.Log.{IsCutEntry}
use Rattle.viewer.proofs.viewer.Viewer.marks_after.Goals as goal

pub prepare_log-requires-2 : goal.prepare_log-requires-2
prepare_log-requires-2 c =
    let marks = c.self.inside.marks in
    let cut = rw (← c.self.view_is) at c.requires.cut in
    record { cut = subst (All (IsCutEntry marks.width marks.height)) (sym c.deref.ensures.value) (c.in_ok-joined.ensures.cut marks.width marks.height cut) }
