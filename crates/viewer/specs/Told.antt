-- A viewer that is told of drawing that stands in a log.
use Rattle.std.specs.Prelude.{Bool, true, false, List}
use Rattle.copy_schedule.specs.declared.LogEntry.{LogEntry}
use Rattle.copy_schedule.specs.Log.{logged}
use Rattle.viewer.specs.Viewer.{KeptViewer}

-- the viewer with its marks after the entries, the first one first
abbrev pub viewer_told : List LogEntry → KeptViewer → KeptViewer
viewer_told log v = record v { marks = logged v.uses_copyrect log v.marks }

-- the same, where it doesn't know them already
abbrev pub told_unless : Bool → List LogEntry → KeptViewer → KeptViewer
told_unless true log v = v
told_unless false log v = viewer_told log v
