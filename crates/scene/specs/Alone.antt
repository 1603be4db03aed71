-- The screen with one viewer, over a list of events.
use Rattle.std.specs.Prelude.{◌≡◌, MatchOption, MatchResult, ℕ, ◌*◌, ◌^◌, nat_le, Bool, true, false, not, ◌&&◌, ◌==◌, nat_lt, if◌then◌else◌, List, [], ◌∷◌, ◌++◌, length, ℤ, pos, ◌-ℤ◌, int_le, nat_abs, Option, Some, None, option_map, Result, Ok, Err, alloc_error}
use Rattle.std.specs.declared.alloc.AllocError.{AllocError}
use Rattle.region.specs.declared.Rect.{Rect}
use Rattle.region.specs.Region.{in_rect}
use Rattle.region.specs.Places.{longest_side}
use Rattle.messages.specs.Reading.{new_items}
use Rattle.messages.specs.Server.{server_version}
use Rattle.scene.specs.declared.Config.{Config}
use Rattle.scene.specs.declared.ScreenError.{ScreenError}
use Rattle.scene.specs.declared.ScreenError.TheVariants as refusals
use Rattle.scene.specs.declared.Event.{Event}
use Rattle.scene.specs.declared.Event.TheVariants.{Write, Paint, Mark, ScheduleCopy, DoCopy, Bell, CutText, Resize, Connect, Hear, Cut, Close}
use Rattle.scene.specs.declared.Answer.{Answer}
use Rattle.updates.specs.declared.notices.Notice.TheVariants as notice
use Rattle.framebuffer.specs.Frame.{Frame, blank_frame}
use Rattle.framebuffer.specs.Picture.{written, copied_colours, places_in}
use Rattle.viewer.specs.Viewer.{Viewer, new_viewer, is_open_viewer, noticed, viewer_marked, viewer_copied, viewer_resized}
use Rattle.viewer.specs.declared.Reply.{Reply}
use Rattle.viewer.specs.Hearing.{after_items, heard_reply}
use Rattle.viewer.specs.Sending.{sending}

abbrev pub nothing_to_say : Answer
nothing_to_say = record { bytes = []; inputs = []; closed = None; refused = None }

abbrev pub refuses : ScreenError → Answer
refuses e = record nothing_to_say { refused = Some e }

abbrev pub gives : List ℕ → Answer
gives bytes = record nothing_to_say { bytes = bytes }

-- whether there are bytes for the viewer, or why not
abbrev pub some_bytes : List ℕ → Bool
some_bytes [] = false
some_bytes (b ∷ bytes) = true

abbrev pub something_to_send : Answer → Result Bool ScreenError
something_to_send a = elim a.refused [ None ↦ Ok (some_bytes a.bytes) | Some e ↦ Err e ]

-- what a call answered, by the answer to its value
abbrev pub as_answer : {X : Type 0} → (X → Answer) → Result X ScreenError → Answer
as_answer answer (Ok x) = answer x
as_answer answer (Err e) = refuses e

-- a call tells the answer: it answers the refusal that stands there; where none does, it gives the rest, unless memory is refused
abbrev pub Tells : {X : Type 0} → (X → Answer) → Result X ScreenError → Answer → Type 0
Tells answer result a = MatchOption a.refused (MatchResult result (λ x. answer x ≡ a) (λ e. e ≡ refusals.OutOfMemory)) (λ e. result ≡ Err e)

-- a refusal as an answer, but for want of memory
abbrev pub settled : ScreenError → Result Answer AllocError
settled refusals.OutOfMemory = Err alloc_error
settled e = Ok (refuses e)

-- The limits of a screen: 1 to 8192 columns and rows each, at most 2 ^ 24 places, 255 bytes of name, 1 to 1000 rectangles.
abbrev pub is_size : ℕ → ℕ → Bool
is_size w h = nat_le 1 w && nat_le w longest_side && nat_le 1 h && nat_le h longest_side && nat_le (w * h) (2 ^ 24)

abbrev pub config_refusal : Config → Option ScreenError
config_refusal c =
    if not (is_size c.width c.height) then Some refusals.BadSize
    else (if nat_lt 255 (length c.name) then Some refusals.BadName
    else (if not (nat_le 1 c.rects_per_update && nat_le c.rects_per_update 1000) then Some refusals.BadRectLimit
    else None))

-- A screen's size is its picture's. Below, c is the configuration with the size of now, as if the screen had been made with it.
abbrev pub at_size : Frame → Config → Config
at_size picture c = record c { width = picture.width; height = picture.height }

-- Drawing calls.

-- 0 <= from <= to <= limit
abbrev pub is_span : ℤ → ℤ → ℕ → Bool
is_span from to limit = int_le (pos 0) from && int_le from to && int_le to (pos limit)

-- 0 <= x1 <= x2 <= W and 0 <= y1 <= y2 <= H
abbrev pub is_within : ℕ → ℕ → Rect → Bool
is_within w h r = is_span r.x1 r.x2 w && is_span r.y1 r.y2 h

abbrev pub pixels_refusal : ℕ → ℕ → Rect → List ℕ → Option ScreenError
pixels_refusal w h r colours =
    if not (is_within w h r) then Some refusals.BadRect
    else (if not (length colours == nat_abs (r.x2 -ℤ r.x1) * nat_abs (r.y2 -ℤ r.y1)) then Some refusals.BadPixelCount
    else None)

-- a text of at most 2 ^ 16 bytes
abbrev pub text_refusal : List ℕ → Option ScreenError
text_refusal text = if nat_lt 65536 (length text) then Some refusals.TextTooLong else None

-- a screen may have so many columns and rows
abbrev pub size_refusal : ℕ → ℕ → Option ScreenError
size_refusal w h = if is_size w h then None else Some refusals.BadSize

abbrev pub drawing_refusal : Config → Event → Option ScreenError
drawing_refusal c (Write r colours) = pixels_refusal c.width c.height r colours
drawing_refusal c (Paint r colours) = pixels_refusal c.width c.height r colours
drawing_refusal c (CutText text) = text_refusal text
drawing_refusal c (Resize w h) = size_refusal w h
drawing_refusal c _ = None

-- what a drawing call that is not refused does to the picture
abbrev pub drawn : Event → Frame → Frame
drawn (Write r colours) f = record f { colours = written f.width f.height r colours f.colours }
drawn (Paint r colours) f = record f { colours = written f.width f.height r colours f.colours }
drawn (DoCopy rects dx dy) f = record f { colours = copied_colours f.width f.height (places_in rects) (dx, dy) f.colours }
drawn (Resize w h) f = blank_frame w h
drawn _ f = f

-- and to a viewer, which is open or not
abbrev pub shown_drawing : {B : Type 0} → Config → Event → Bool → Viewer B → Viewer B
shown_drawing c (Paint r colours) open_now v = viewer_marked (in_rect r) v
shown_drawing c (Mark rects) open_now v = viewer_marked (places_in rects) v
shown_drawing c (ScheduleCopy rects dx dy) open_now v = viewer_copied c.width c.height (places_in rects) (dx, dy) v
shown_drawing c (DoCopy rects dx dy) open_now v = viewer_copied c.width c.height (places_in rects) (dx, dy) v
shown_drawing c Bell open_now v = noticed notice.Bell open_now v
shown_drawing c (CutText text) open_now v = noticed (notice.CutText text) open_now v
shown_drawing c (Resize w h) open_now v = viewer_resized w h v
shown_drawing c _ open_now v = v

-- A viewer's own events.

abbrev pub answer_of : Reply → Answer
answer_of r = record { bytes = r.bytes; inputs = r.inputs; closed = r.fault; refused = None }

-- 7.1 to 7.5: what a viewer is answered to a piece that comes behind its bytes so far
abbrev pub heard_answer : Config → List ℕ → List ℕ → Answer
heard_answer c before piece = answer_of (heard_reply c.width c.height c.name before piece)

-- 7.1 to 7.5: the viewer after a piece of its bytes, and what it is answered
abbrev pub hearing : Config → List ℕ → Viewer (List ℕ) → Viewer (List ℕ) × Answer
hearing c piece v = (after_items c.width c.height (new_items v.heard piece) (record v { heard = v.heard ++ piece }), heard_answer c v.heard piece)

-- The machine.

-- a picture, and a viewer or none
pub record One : Type 0 where
  pub picture : Frame
  pub viewer : Option (Viewer (List ℕ))

abbrev pub empty_screen : Config → One
empty_screen c = record { picture = blank_frame c.width c.height; viewer = None }

abbrev pub with_viewer : One → Viewer (List ℕ) × Answer → One × Answer
with_viewer s (v, answer) = (record s { viewer = Some v }, answer)

abbrev pub own_step : Config → Event → One → Option (Viewer (List ℕ)) → One × Answer
own_step c (Connect n) s None = (record s { viewer = Some (new_viewer c.width c.height) }, gives server_version)
own_step c (Connect n) s (Some v) = (s, refuses refusals.NumberInUse)
own_step c (Hear n piece) s (Some v) = with_viewer s (hearing c piece v)
own_step c (Cut n) s (Some v) = (let sent = sending c.width c.height c.rects_per_update s.picture.colours v in with_viewer s (sent.1, gives sent.0))
own_step c (Close n) s (Some v) = (record s { viewer = None }, nothing_to_say)
own_step c _ s _ = (s, refuses refusals.NoViewer)

abbrev pub draw_step : Config → Event → One → Option ScreenError → One × Answer
draw_step c e s None = (record { picture = drawn e s.picture; viewer = option_map (λ v. shown_drawing c e (is_open_viewer v) v) s.viewer }, nothing_to_say)
draw_step c e s (Some refusal) = (s, refuses refusal)

-- whose event it is; none's where it is a drawing call
abbrev pub owner_of : Event → Option ℕ
owner_of (Connect n) = Some n
owner_of (Hear n piece) = Some n
owner_of (Cut n) = Some n
owner_of (Close n) = Some n
owner_of _ = None

abbrev step_by : Config → Event → One → Option ℕ → One × Answer
step_by c e s None = draw_step c e s (drawing_refusal c e)
step_by c e s (Some n) = own_step c e s s.viewer

-- one event of the one viewer, or one drawing call
abbrev pub step : Config → Event → One → One × Answer
step c e s = step_by (at_size s.picture c) e s (owner_of e)

-- the screen after a list of events
abbrev pub after : Config → List Event → One → One
after c [] s = s
after c (e ∷ es) s = after c es (step c e s).0

-- an answer to each
abbrev pub answers_from : Config → List Event → One → List Answer
answers_from c [] s = []
answers_from c (e ∷ es) s = (step c e s).1 ∷ answers_from c es (step c e s).0

abbrev pub alone : Config → List Event → List Answer
alone c es = answers_from c es (empty_screen c)
