-- What one sending step gives a viewer (RFC 6143, 7.6).
use Rattle.std.specs.Prelude.{ℕ, Bool, false, not, ◌&&◌, ◌==◌, if◌then◌else◌, List, [], ◌++◌, flat_map, Option, Some, None}
use Rattle.copy_schedule.specs.Marks.{Sent, new_marks, has_asked, cut_of}
use Rattle.messages.specs.Reading.{Rest, is_open_rest}
use Rattle.updates.specs.Bytes.{map_bytes, notice_bytes, bytes_of, size_bytes}
use Rattle.viewer.specs.Viewer.{Viewer, size_by, is_open_viewer}

-- 7.6.1: the bytes of an update of places
abbrev pub update_bytes : {B : Type 0} (width height : ℕ) (picture : List ℕ) → Viewer B → Sent → List ℕ
update_bytes w h picture v s = bytes_of w h picture v.encoding v.format s.copies s.offset s.pixels

-- 7.6.2 to 7.6.4: what comes first: the colour map, and then the notices that wait
abbrev pub front_bytes : {B : Type 0} → Viewer B → List ℕ
front_bytes v = map_bytes v.map_owed ++ flat_map notice_bytes v.notices

-- 7.8.2: a viewer that lists DesktopSize is owed a size that it doesn't have
abbrev pub is_size_owed : {B : Type 0} (width height : ℕ) → Viewer B → Bool
is_size_owed w h v = v.takes_sizes && not ((size_by w h v.told).width == w && (size_by w h v.told).height == h)

-- 7.8.2: it is told the size where it asks for places
abbrev pub tells_size : {B : Type 0} (width height : ℕ) → Viewer B → Bool
tells_size w h v = has_asked v.marks && is_size_owed w h v

-- 7.8.2: the bytes of a step that tells the size, and the viewer after it: it shows nothing, so every place is owed, and it asks anew
abbrev pub with_size : {B : Type 0} (width height : ℕ) → Viewer B → List ℕ × Viewer B
with_size w h v =
    (front_bytes v ++ size_bytes w h, record v { map_owed = false; notices = []; told = Some (record { width = w; height = h }); marks = new_marks w h })

-- 7.6.1: the bytes of any other sending step, and the viewer after it
abbrev pub with_update : {B : Type 0} (width height : ℕ) (picture : List ℕ) → Viewer B → Option Sent → List ℕ × Viewer B
with_update w h picture v None = (front_bytes v, record v { map_owed = false; notices = [] })
with_update w h picture v (Some s) = (front_bytes v ++ update_bytes w h picture v s, record v { map_owed = false; notices = []; marks = s.after })

-- a size comes before all places; of the copies and of the pixel rectangles, at most limit are sent
abbrev pub sending_open : {B : Type 0} (width height limit : ℕ) (picture : List ℕ) → Viewer B → List ℕ × Viewer B
sending_open w h limit picture v = if tells_size w h v then with_size w h v else with_update w h picture v (cut_of limit v.marks)

-- only an open viewer is sent anything
abbrev pub sending : (width height limit : ℕ) (picture : List ℕ) → Viewer (List ℕ) → List ℕ × Viewer (List ℕ)
sending w h limit picture v = if is_open_viewer v then sending_open w h limit picture v else ([], v)

-- the same, by what a screen keeps of the viewer
abbrev pub sending_kept : (width height limit : ℕ) (picture : List ℕ) → Viewer Rest → List ℕ × Viewer Rest
sending_kept w h limit picture v = if is_open_rest v.heard then sending_open w h limit picture v else ([], v)
