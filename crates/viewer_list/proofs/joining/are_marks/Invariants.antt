use Rattle.std.proofs.Common.{ℕ, ◌<◌, get_or}
use Rattle.copy_schedule.specs.declared.LogEntry.{LogEntry}
use Rattle.viewer_list.specs.Lagging.{IsMark}
use Rattle.viewer_list.proofs.joining.are_marks.Given as goal

-- the entries that were passed are marks
abbrev pub invariant-loop-entry : goal.invariant-loop-entry
invariant-loop-entry l = (k : ℕ) (d : LogEntry) → k < l.entry-index → IsMark (get_or l.entries k d)
