-- One viewer, and what drawing and its own messages do to it.
use Rattle.std.specs.Prelude.{ℕ, ◌+◌, ◌-◌, ◌^◌, Bool, true, false, not, ◌&&◌, ◌||◌, if◌then◌else◌, nat_lt, min, List, [], ◌∷◌, ◌++◌, length, ℤ, pos, Option, None, Some, unwrap_or}
use Rattle.region.specs.Region.{in_rect, on_screen}
use Rattle.region.specs.Places.{some_place, cut_destination, same_offset}
use Rattle.copy_schedule.specs.Marks.{Marks, has_asked, new_marks, marked, copied_by, requested, resized, without_copyrect}
use Rattle.pixel_translate.specs.declared.Area.{Area}
use Rattle.pixel_translate.specs.declared.PixelFormat.{PixelFormat}
use Rattle.pixel_translate.specs.Pixel.{server_format, is_colour_map}
use Rattle.messages.specs.declared.Encoding.{Encoding}
use Rattle.messages.specs.declared.Encoding.TheVariants as encoding
use Rattle.messages.specs.declared.Item.{Item}
use Rattle.messages.specs.declared.Item.TheVariants as item
use Rattle.messages.specs.declared.Phase.{Phase}
use Rattle.messages.specs.declared.Phase.TheVariants as phase
use Rattle.messages.specs.Grammar.{End, waiting}
use Rattle.messages.specs.Reading.{heard, Rest, rest}
use Rattle.viewer.specs.declared.settings.Settings.{Settings}
use Rattle.updates.specs.declared.sizes.Size.{Size}
use Rattle.updates.specs.declared.notices.Notice.{Notice}
use Rattle.updates.specs.Waiting.{with_notice}

-- One viewer. Its bytes so far stand as a list, or as what a screen keeps of them.
pub record Viewer (Bytes : Type 0) : Type 0 where
  pub heard : Bytes
  -- its ClientInit asked that others stay connected
  pub shared : Bool
  pub format : PixelFormat
  -- it has not been sent the colour map that its format needs
  pub map_owed : Bool
  pub encoding : Encoding
  pub uses_copyrect : Bool
  -- it lists DesktopSize, so it can be told a new size
  pub takes_sizes : Bool
  -- how many of its requests were not incremental, so that they want places whether these changed or not; at most 2^64 - 1
  pub full_requests : ℕ
  -- the size that it was told last; none before its ServerInit
  pub told : Option Size
  pub marks : Marks
  pub notices : List Notice

-- a viewer as a screen keeps it: of its bytes, where the conversation stands, and the unfinished message
abbrev pub KeptViewer : Type 0
KeptViewer = Viewer Rest

abbrev pub kept_viewer : Viewer (List ℕ) → KeptViewer
kept_viewer v = record { heard = rest v.heard; shared = v.shared; format = v.format; map_owed = v.map_owed; encoding = v.encoding; uses_copyrect = v.uses_copyrect; takes_sizes = v.takes_sizes; full_requests = v.full_requests; told = v.told; marks = v.marks; notices = v.notices }

-- at connecting
abbrev pub new_viewer : (width height : ℕ) → Viewer (List ℕ)
new_viewer w h = record { heard = []; shared = false; format = server_format; map_owed = false; encoding = encoding.Raw; uses_copyrect = false; takes_sizes = false; full_requests = 0; told = None; marks = new_marks w h; notices = [] }

-- 7.3.2: the ServerInit is sent, and there is no fault
abbrev pub is_open : Phase → End → Bool
is_open (phase.Open v) waiting = true
is_open _ _ = false

abbrev pub is_open_viewer : Viewer (List ℕ) → Bool
is_open_viewer v = is_open (heard v.heard).phase (heard v.heard).end

-- what it has set (RFC 6143, 7.3.1, 7.5.1 and 7.5.2), and how many of its requests were not incremental (7.5.3)
abbrev pub settings_of : {B : Type 0} → Viewer B → Settings
settings_of v = record { shared = v.shared; format = v.format; encoding = v.encoding; uses_copyrect = v.uses_copyrect; takes_sizes = v.takes_sizes; full_requests = v.full_requests }

-- it asked for places, and no update of places or of a size was cut for it since: a request of its is unanswered (RFC 6143, 7.5.3)
abbrev pub is_asking : {B : Type 0} → Viewer B → Bool
is_asking v = has_asked v.marks

-- an open viewer keeps a notice
abbrev pub noticed : {B : Type 0} → Notice → Bool → Viewer B → Viewer B
noticed notice open_now v = record v { notices = if open_now then with_notice notice v.notices else v.notices }

abbrev pub viewer_marked : {B : Type 0} → (ℤ → ℤ → Bool) → Viewer B → Viewer B
viewer_marked set v = record v { marks = marked set v.marks }

-- 7.7.2: a copy by (0, 0), or of no place that is on the screen with its source, does nothing
abbrev pub does_nothing : (width height : ℕ) (set : ℤ → ℤ → Bool) (by : ℤ × ℤ) → Bool
does_nothing w h set by = same_offset by (pos 0, pos 0) || not (some_place w h (cut_destination w h set by))

abbrev pub viewer_copied : {B : Type 0} (width height : ℕ) (set : ℤ → ℤ → Bool) (by : ℤ × ℤ) → Viewer B → Viewer B
viewer_copied w h set by v =
    record v { marks = if does_nothing w h set by then v.marks else copied_by (cut_destination w h set by) by v.uses_copyrect v.marks }

-- 7.3.2, 7.8.2: a viewer's size is that of a w by h screen until its ServerInit, and then what it was told last
abbrev pub size_by : (width height : ℕ) (told : Option Size) → Size
size_by w h told = unwrap_or told (record { width = w; height = h })

-- its view: the columns and rows that are within both its size and the screen
abbrev pub view_by : (width height : ℕ) (told : Option Size) → Size
view_by w h told = record { width = min (size_by w h told).width w; height = min (size_by w h told).height h }

abbrev pub view_of : {B : Type 0} (width height : ℕ) → Viewer B → Size
view_of w h v = view_by w h v.told

abbrev pub in_view : {B : Type 0} (width height : ℕ) → Viewer B → (x y : ℤ) → Bool
in_view w h v x y = on_screen (view_of w h v).width (view_of w h v).height x y

-- 7.8.2: the screen has w columns and h rows from now on
abbrev pub viewer_resized : {B : Type 0} (width height : ℕ) → Viewer B → Viewer B
viewer_resized w h v = record v { marks = resized w h (in_view w h v) v.marks }

-- 7.5.3: the places of an area that are in a view
abbrev pub area_places : (width height : ℕ) → Area → (x y : ℤ) → Bool
area_places w h a x y = in_rect (record { x1 = pos a.x; y1 = pos a.y; x2 = pos (a.x + a.w); y2 = pos (a.y + a.h) }) x y && on_screen w h x y

-- 7.5.3: one request more, which is counted where it isn't incremental
abbrev pub with_request : Bool → ℕ → ℕ
with_request true n = n
with_request false n = min (n + 1) (2 ^ 64 - 1)

-- RFC 6143, 7.5: what a viewer's message does on a w by h screen. Its ClientInit is answered with the screen's size.
abbrev pub after_item : {B : Type 0} (width height : ℕ) → Item → Viewer B → Viewer B
after_item w h (item.Format f) v = record v { format = f; map_owed = is_colour_map f }
after_item w h (item.Encodings preferred copyrect resize) v = record v {
  encoding = preferred;
  uses_copyrect = copyrect;
  takes_sizes = resize;
  marks = if copyrect then v.marks else without_copyrect v.marks;
}
after_item w h (item.Request incremental area) v =
    record v { full_requests = with_request incremental v.full_requests; marks = requested (area_places (view_of w h v).width (view_of w h v).height area) incremental v.marks }
after_item w h (item.Version version) v = v
after_item w h item.Choice v = v
after_item w h (item.Init shared) v = record v { shared = shared; told = Some (record { width = w; height = h }) }
after_item w h (item.Input input) v = v
