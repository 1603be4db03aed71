-- What a call that cuts an update gives, and what a viewer takes.
use Rattle.std.specs.Prelude.{ℕ, Bool, false, ◌&&◌, nat_lt, length, List, [], ◌++◌, Option, Some, None}
use Rattle.messages.specs.Reading.{is_open_rest}
use Rattle.copy_schedule.specs.Marks.{Marks}
use Rattle.viewer.specs.declared.cutting.Planned.{Planned}
use Rattle.viewer.specs.declared.cutting.PreparedUpdate.{PreparedUpdate}
use Rattle.viewer.specs.Viewer.{KeptViewer}
use Rattle.viewer.specs.Sending.{front_bytes}
use Rattle.updates.specs.Updates.{part_bytes}

-- the bytes of an update, or none
abbrev pub bytes_given : Option (List ℕ) → List ℕ
bytes_given None = []
bytes_given (Some bytes) = bytes

-- a viewer's marks once others are put in their place, if there are any
abbrev pub marks_put : Marks → Option Marks → Marks
marks_put m None = m
marks_put m (Some n) = n

-- a viewer's step with what is planned of the screen: the bytes, and the viewer after it
abbrev pub planned_bytes : KeptViewer → Planned → List ℕ
planned_bytes v p = front_bytes v ++ part_bytes p.part

abbrev pub planned_viewer : KeptViewer → Planned → KeptViewer
planned_viewer v p = record v { map_owed = false; notices = []; told = p.told; marks = marks_put v.marks p.marks }

-- the bytes of an update that is prepared, or none; and the viewer once it is cut
abbrev pub prepared_bytes : Option PreparedUpdate → List ℕ
prepared_bytes None = []
prepared_bytes (Some p) = p.update

abbrev pub after_prepared : KeptViewer → Option PreparedUpdate → KeptViewer
after_prepared v None = v
after_prepared v (Some p) = record v { map_owed = false; notices = []; told = p.told; marks = marks_put v.marks p.marks }

-- whether a viewer would keep a notice: it is open, and fewer than 64 wait
abbrev pub keeps_notices : KeptViewer → Bool
keeps_notices v = is_open_rest v.heard && nat_lt (length v.notices) 64
