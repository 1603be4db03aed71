-- Drawing calls that wait in a log, and what they make of a viewer's marks.
use Rattle.std.specs.Prelude.{Bool, ◌&&◌, ℕ, List, [], ◌∷◌}
use Rattle.region.specs.declared.Rect.{Rect}
use Rattle.region.specs.Region.{covers}
use Rattle.copy_schedule.specs.declared.LogEntry.{LogEntry}
use Rattle.copy_schedule.specs.declared.LogEntry.TheVariants.{Mark, Copy}
use Rattle.region.specs.Places.{some_place}
use Rattle.copy_schedule.specs.Marks.{Marks, asked_at, marked, copied_by, IsCutTo}

-- the marks after one entry, of a viewer that uses CopyRect or of another
abbrev pub after_entry : Bool → LogEntry → Marks → Marks
after_entry uses_copyrect (Mark region) m = marked (covers region.list) m
after_entry uses_copyrect (Copy region dx dy) m = copied_by (covers region.list) (dx, dy) uses_copyrect m

-- the marks after a list of entries, the first one first
abbrev pub logged : Bool → List LogEntry → Marks → Marks
logged uses_copyrect [] m = m
logged uses_copyrect (entry ∷ entries) m = logged uses_copyrect entries (after_entry uses_copyrect entry m)

-- a copy's region is on a w by h screen with its sources
abbrev pub IsCutEntry : ℕ → ℕ → LogEntry → Type 0
IsCutEntry w h (Mark region) = Unit {0}
IsCutEntry w h (Copy region dx dy) = IsCutTo w h (dx, dy) region.list

-- the places that an entry draws
abbrev pub drawn_by : LogEntry → List Rect
drawn_by (Mark region) = region.list
drawn_by (Copy region dx dy) = region.list

-- whether an entry draws a place that is asked for
abbrev pub draws_asked : Marks → LogEntry → Bool
draws_asked m entry = some_place m.width m.height (λ x y. asked_at m x y && covers (drawn_by entry) x y)
