use Rattle.std.proofs.Common.{◌≡◌, drop}
use Rattle.copy_schedule.specs.Log.{logged}
use Rattle.copy_schedule.proofs.log.take_entries.Given as goal

-- what is left makes of the marks now what all make of the marks before
abbrev pub invariant-loop-entry : goal.invariant-loop-entry
invariant-loop-entry l = record {
  marks : logged l.uses_copyrect (drop l.entry-index l.entries) l.marks ≡ logged l.uses_copyrect l.entries l.fn.marks;
  width : l.marks.width ≡ l.fn.marks.width;
  height : l.marks.height ≡ l.fn.marks.height;
}
