-- The drawing calls of the places of a region.
use Rattle.std.specs.Prelude.{List}
use Rattle.region.specs.declared.Rect.{Rect}
use Rattle.screen.specs.declared.Event.{Event}
use Rattle.screen.specs.declared.Event.TheVariants as events
use Rattle.c_screen.specs.declared.draw.RegionCall.{RegionCall}
use Rattle.c_screen.specs.declared.draw.RegionCall.TheVariants.{Mark, ScheduleCopy, DoCopy}

-- the event of a call, by the places
abbrev pub event_by : RegionCall → List Rect → Event
event_by Mark = λ places. events.Mark places
event_by (ScheduleCopy dx dy) = λ places. events.ScheduleCopy places dx dy
event_by (DoCopy dx dy) = λ places. events.DoCopy places dx dy
