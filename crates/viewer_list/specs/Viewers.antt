-- What a contract sees of the viewers of a screen, and of a drawing call for them.
use Rattle.std.specs.Prelude.{◌≡◌, ℕ, ◌*◌, ◌==◌, ◌&&◌, ◌||◌, not, Bool, if◌then◌else◌, List, length, Option, Some, None, Result, Ok}
use Rattle.std.specs.Borrow.{Bor}
use Rattle.std.specs.Fn.{Once, FnOnceReturnsAt}
use Rattle.std.specs.Map.{keys_of, lookup}
use Rattle.std.specs.declared.alloc.AllocError.{AllocError}
use Rattle.client_list.specs.Connected.{index_of, set_value_at}
use Rattle.copy_schedule.specs.declared.LogEntry.{LogEntry}
use Rattle.copy_schedule.specs.Marks.{has_asked, pending}
use Rattle.copy_schedule.specs.Log.{after_entry}
use Rattle.messages.specs.Reading.{is_open_rest, rest}
use Rattle.updates.specs.declared.notices.Notice.{Notice}
use Rattle.updates.specs.declared.notices.Notice.TheVariants as notice
use Rattle.viewer.specs.declared.cutting.PreparedUpdate.{PreparedUpdate}
use Rattle.viewer.specs.Given.{keeps_notices}
use Rattle.viewer.specs.Sending.{is_size_owed}
use Rattle.updates.specs.Waiting.{none_wait}
use Rattle.viewer.specs.Viewer.{KeptViewer, noticed}

-- the viewers by number, in their order of connecting, each as it would be had it been told of all drawing at once; and for how
-- many drawing calls there is room
pub record Viewers : Type 0 where
  pub pairs : List (ℕ × KeptViewer)
  pub room : ℕ

-- the viewer with a number
abbrev pub viewer_of : Viewers → ℕ → Option KeptViewer
viewer_of s number = lookup (λ n. n == number) s.pairs

-- the viewers once that with a number is another
abbrev pub with_viewer : Viewers → ℕ → KeptViewer → List (ℕ × KeptViewer)
with_viewer s number viewer = set_value_at s.pairs (index_of (keys_of s.pairs) number) viewer

-- a viewer's marks are one for each position
abbrev pub IsWhole : KeptViewer → Type 0
IsWhole v = length v.marks.marks ≡ v.marks.width * v.marks.height

-- a viewer's marks are of a size, one for each position, and what is kept of its bytes is that of some bytes
pub record IsOfSize (w h : ℕ) (v : KeptViewer) : Type 0 where
  pub width : v.marks.width ≡ w
  pub height : v.marks.height ≡ h
  pub whole : IsWhole v
  pub heard : (before : List ℕ) × (v.heard ≡ rest before)

-- a viewer that was told of a drawing call
abbrev pub drawn : LogEntry → KeptViewer → KeptViewer
drawn entry v = record v { marks = after_entry v.uses_copyrect entry v.marks }

-- a viewer that keeps a notice, where it is open
abbrev pub viewer_noticed : Notice → KeptViewer → KeptViewer
viewer_noticed notice v = noticed notice (is_open_rest v.heard) v

-- a text for a viewer, if it would keep one
abbrev pub text_for : List ℕ → KeptViewer → Option Notice
text_for text v = if keeps_notices v then Some (notice.CutText text) else None

-- whether an update that is cut now would have something to send: a colour map, notices, a size or places
abbrev pub is_pending : KeptViewer → Bool
is_pending v = is_open_rest v.heard
    && (v.map_owed || (not (none_wait v.notices) || ((has_asked v.marks && is_size_owed v.marks.width v.marks.height v) || pending v.marks)))

-- an update that is cut, with what a call made of it before that
pub record IsMadeBefore {F T : Type 0} (call : Once F (Bor PreparedUpdate × Unit {0}) (Result T AllocError)) (before : F) (cut : List ℕ × T) : Type 0 where
  pub prepared : PreparedUpdate
  pub update : prepared.update ≡ cut.0
  pub made : FnOnceReturnsAt call before prepared (Ok cut.1)
