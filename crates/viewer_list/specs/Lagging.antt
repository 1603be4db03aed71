-- One viewer that lags behind a log of drawing, and what it stands for.
use Rattle.std.specs.Prelude.{◌≡◌, ℕ, ◌≤◌, ◌+◌, min, max, Bool, true, false, nat_le, if◌then◌else◌, List, [], ◌∷◌, length, drop, map, All}
use Rattle.std.specs.Map.{values_of}
use Rattle.region.specs.RegionView.{RegionView}
use Rattle.region.specs.Region.{covers}
use Rattle.copy_schedule.specs.declared.LogEntry.{LogEntry}
use Rattle.copy_schedule.specs.declared.LogEntry.TheVariants.{Mark, Copy}
use Rattle.copy_schedule.specs.Marks.{Marks, marked}
use Rattle.copy_schedule.specs.Log.{logged, IsCutEntry}
use Rattle.viewer.specs.Viewer.{KeptViewer, viewer_resized}
use Rattle.updates.specs.declared.notices.Notice.{Notice}
use Rattle.viewer_list.specs.Viewers.{viewer_noticed}
use Rattle.viewer_list.specs.declared.lagging.Lagging.{Lagging}
use Rattle.viewer_list.specs.declared.lagging.CatchUp.{CatchUp}

-- the entries that a viewer's marks lack: the log's, but for the first ones, which they have taken
abbrev pub waiting : List LogEntry → Lagging → List LogEntry
waiting log l = drop l.taken log

-- a viewer with its waiting entries applied, the first one first
abbrev pub caught_up : List LogEntry → Lagging → KeptViewer
caught_up log l = record l.viewer { marks = logged l.viewer.uses_copyrect (waiting log l) l.viewer.marks }

-- the same viewer, whose marks lack nothing
abbrev pub up_to_date : List LogEntry → Lagging → Lagging
up_to_date log l = record { viewer = caught_up log l; taken = length log }

-- a viewer that stands at the log's end where its marks know the log
abbrev pub moved_where_known : Bool → List LogEntry → Lagging → Lagging
moved_where_known knows_log log l = record l { taken = if knows_log then length log else l.taken }

-- the same viewer, whose marks lack nothing where they have taken at least so many entries
abbrev pub brought_up : List LogEntry → ℕ → Lagging → Lagging
brought_up log least l = if nat_le least l.taken then up_to_date log l else l

-- the same viewer, at the end of a log of so many entries where it stood behind that
abbrev pub within_end : ℕ → Lagging → Lagging
within_end end l = record l { taken = min l.taken end }

-- the pairs of number and viewer
abbrev pub seen : List LogEntry → List (ℕ × Lagging) → List (ℕ × KeptViewer)
seen log pairs = map (λ pair. (pair.0, caught_up log pair.1)) pairs

-- a viewer's marks lack nothing
abbrev pub IsCurrent : List LogEntry → Lagging → Type 0
IsCurrent log l = l.taken ≡ length log

-- a viewer's position is in the log, and each copy that it lacks is on its screen
pub record Fits (log : List LogEntry) (l : Lagging) : Type 0 where
  pub stands : l.taken ≤ length log
  pub cut : All (IsCutEntry l.viewer.marks.width l.viewer.marks.height) (waiting log l)

-- a viewer that keeps a notice, where it is open
abbrev pub told_of : Notice → Lagging → Lagging
told_of notice l = record l { viewer = viewer_noticed notice l.viewer }

-- a viewer's marks on a screen of another size; and the viewer with them, at the beginning of a log
abbrev pub resized_marks : ℕ → ℕ → Lagging → Marks
resized_marks w h l = (viewer_resized w h l.viewer).marks

abbrev pub resized_of : ℕ → ℕ → Lagging → Lagging
resized_of w h l = record { viewer = viewer_resized w h l.viewer; taken = 0 }

-- the log's first entries are joined ones, at most 64, and it has at most 256 others
pub record IsBounded (log : List LogEntry) (joined : ℕ) : Type 0 where
  pub within : joined ≤ length log
  pub few : joined ≤ 64
  pub others : length log ≤ joined + 256

-- the log is short, and holds what the viewers lack
pub record AllFit (log : List LogEntry) (joined : ℕ) (pairs : List (ℕ × Lagging)) : Type 0 where
  pub short : IsBounded log joined
  pub each : All (Fits log) (values_of pairs)

-- entries that make of a viewer's marks what the log's from a position on make of them, where it uses CopyRect alike
pub record IsCatchUp (log : List LogEntry) (s : CatchUp) : Type 0 where
  pub same : (m : Marks) → logged s.uses_copyrect s.entries.items m ≡ logged s.uses_copyrect (drop s.taken log) m
  pub cut : (w h : ℕ) → All (IsCutEntry w h) (drop s.taken log) → All (IsCutEntry w h) s.entries.items

-- it is such a viewer
pub record IsFor (l : Lagging) (s : CatchUp) : Type 0 where
  pub taken : s.taken ≡ l.taken
  pub uses_copyrect : s.uses_copyrect ≡ l.viewer.uses_copyrect

-- an entry is a mark
abbrev pub is_mark : LogEntry → Bool
is_mark (Mark region) = true
is_mark (Copy region dx dy) = false

abbrev pub IsMark : LogEntry → Type 0
IsMark entry = is_mark entry ≡ true

-- a region that, once it is marked, makes of each viewer's marks what the entries make of them
pub record IsJoined (entries : List LogEntry) (region : RegionView) : Type 0 where
  pub same : (uses_copyrect : Bool) (m : Marks) → marked (covers region.list) m ≡ logged uses_copyrect entries m

-- a viewer's position, if it is at most `end`
abbrev pub position_within : ℕ → Lagging → ℕ
position_within end l = if nat_le l.taken end then l.taken else 0

-- the last position of the log at which a viewer stands, of those up to `end`; 0 where nobody stands there
abbrev pub last_position : ℕ → List Lagging → ℕ
last_position end [] = 0
last_position end (l ∷ ls) = max (last_position end ls) (position_within end l)
