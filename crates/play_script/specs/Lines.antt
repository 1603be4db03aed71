-- What a script's line says.
use Rattle.std.specs.Prelude.{ℕ, ◌+◌, ◌*◌, ◌^◌, nat_le, Bool, ◌&&◌, ◌||◌, ◌==◌, if◌then◌else◌, List, [], ◌∷◌, length, get_or, codes, bytes_eq, replicate, pos, Option, Some, None, option_and_then, option_map}
use Rattle.screen.specs.declared.Config.{Config}
use Rattle.screen.specs.declared.History.TheVariants.{NotKept}
use Rattle.screen.specs.declared.Event.{Event}
use Rattle.screen.specs.declared.Event.TheVariants as event
use Rattle.play_script.specs.declared.lines.Line.{Line}
use Rattle.play_script.specs.declared.lines.Line.TheVariants as line
use Rattle.region.specs.declared.Rect.{Rect}
use Rattle.play_script.specs.declared.lines.Places.{Places}
use Rattle.play_script.specs.declared.lines.Pixels.{Pixels}
use Rattle.play_script.specs.declared.lines.Move.{Move}
use Rattle.play_script.specs.declared.lines.Verb.{Verb}
use Rattle.play_script.specs.declared.lines.Verb.TheVariants as verb
use Rattle.play_script.specs.Words.{words_of, word, is_empty, number_limit, number, signed, viewer_number, hex_bytes, hex_colours}

infixl 10 ◌>>=◌
abbrev pub ◌>>=◌ : {A B : Type 0} → Option A → (A → Option B) → Option B
o >>= f = option_and_then f o

-- an empty line, and one that begins with `#`
abbrev pub is_skipped : List ℕ → Bool
is_skipped l = is_empty l || get_or l 0 0 == 35

-- the command that a line's first word names
abbrev pub verb_of : List ℕ → Option Verb
verb_of w =
    if bytes_eq w (codes "screen") then Some verb.Screen
    else (if bytes_eq w (codes "write") then Some verb.Write
    else (if bytes_eq w (codes "paint") then Some verb.Paint
    else (if bytes_eq w (codes "mark") then Some verb.Mark
    else (if bytes_eq w (codes "schedule") then Some verb.Schedule
    else (if bytes_eq w (codes "docopy") then Some verb.DoCopy
    else (if bytes_eq w (codes "bell") then Some verb.Bell
    else (if bytes_eq w (codes "cuttext") then Some verb.CutText
    else (if bytes_eq w (codes "resize") then Some verb.Resize
    else (if bytes_eq w (codes "connect") then Some verb.Connect
    else (if bytes_eq w (codes "hear") then Some verb.Hear
    else (if bytes_eq w (codes "cut") then Some verb.Cut
    else (if bytes_eq w (codes "close") then Some verb.Close
    else None))))))))))))

-- screen W H NAME [LIMIT]

-- any bytes without blanks; `-` for the empty name
abbrev pub name_of : List ℕ → Option (List ℕ)
name_of w = if is_empty w then None else (if bytes_eq w (codes "-") then Some [] else Some w)

abbrev pub limit_of : List (List ℕ) → Option ℕ
limit_of ws = if length ws == 4 then Some 50 else (if length ws == 5 then number (word ws 4) else None)

unfoldable pub config_of : List (List ℕ) → Option Config
config_of ws = do
  limit ← limit_of ws
  width ← number (word ws 1)
  height ← number (word ws 2)
  name ← name_of (word ws 3)
  Some (record { width = width; height = height; name = name; rects_per_update = limit; history = NotKept })

-- X Y W H: the rectangle (X, Y, X+W, Y+H), and how many places it has, at most 2 ^ 24
abbrev pub places_by : (x y width height : ℕ) → Option Places
places_by x y w h =
    if nat_le (x + w) number_limit && nat_le (y + h) number_limit && nat_le (w * h) (2 ^ 24)
    then Some (record { rect = record { x1 = pos x; y1 = pos y; x2 = pos (x + w); y2 = pos (y + h) }; count = w * h })
    else None

unfoldable pub places_of : List (List ℕ) → Option Places
places_of ws = do
  x ← number (word ws 1)
  y ← number (word ws 2)
  w ← number (word ws 3)
  h ← number (word ws 4)
  places_by x y w h

-- one colour alone stands for as many equal ones as there are places
abbrev pub spread : ℕ → List ℕ → List ℕ
spread count [] = []
spread count (c ∷ []) = replicate count c
spread count (c ∷ d ∷ cs) = c ∷ d ∷ cs

-- X Y W H PIXELS: a rectangle, and its colours
unfoldable pub pixels_of : List (List ℕ) → Option Pixels
pixels_of ws = do
  places ← places_of ws
  colours ← hex_colours (word ws 5)
  Some (record { rect = places.rect; colours = spread places.count colours })

-- paint X Y W H PIXELS, and write likewise
abbrev pub paint_of : List (List ℕ) → Option Event
paint_of ws = option_map (λ p. event.Paint p.rect p.colours) (pixels_of ws)

abbrev pub write_of : List (List ℕ) → Option Event
write_of ws = option_map (λ p. event.Write p.rect p.colours) (pixels_of ws)

-- X1 Y1 X2 Y2
unfoldable pub corners_of : List (List ℕ) → Option Rect
corners_of ws = do
  x1 ← signed (word ws 1)
  y1 ← signed (word ws 2)
  x2 ← signed (word ws 3)
  y2 ← signed (word ws 4)
  Some (record { x1 = x1; y1 = y1; x2 = x2; y2 = y2 })

-- mark X1 Y1 X2 Y2
abbrev pub mark_of : List (List ℕ) → Option Event
mark_of ws = if length ws == 5 then option_map (λ r. event.Mark (r ∷ [])) (corners_of ws) else None

-- X1 Y1 X2 Y2 DX DY
unfoldable pub move_of : List (List ℕ) → Option Move
move_of ws = do
  rect ← corners_of ws
  dx ← signed (word ws 5)
  dy ← signed (word ws 6)
  Some (record { rect = rect; dx = dx; dy = dy })

-- schedule X1 Y1 X2 Y2 DX DY, and docopy likewise
abbrev pub schedule_of : List (List ℕ) → Option Event
schedule_of ws = if length ws == 7 then option_map (λ m. event.ScheduleCopy (m.rect ∷ []) m.dx m.dy) (move_of ws) else None

abbrev pub copy_of : List (List ℕ) → Option Event
copy_of ws = if length ws == 7 then option_map (λ m. event.DoCopy (m.rect ∷ []) m.dx m.dy) (move_of ws) else None

-- bell
abbrev pub bell_of : List (List ℕ) → Option Event
bell_of ws = if length ws == 1 then Some event.Bell else None

-- cuttext HEX
abbrev pub text_of : List (List ℕ) → Option Event
text_of ws = if length ws == 2 then option_map (λ text. event.CutText text) (hex_bytes (word ws 1)) else None

-- resize W H
unfoldable pub size_in : List (List ℕ) → Option Event
size_in ws = do
  width ← number (word ws 1)
  height ← number (word ws 2)
  Some (event.Resize width height)

abbrev pub resize_of : List (List ℕ) → Option Event
resize_of ws = if length ws == 3 then size_in ws else None

-- hear V HEX
unfoldable pub hear_of : List (List ℕ) → Option Event
hear_of ws = do
  viewer ← viewer_number (word ws 1)
  piece ← hex_bytes (word ws 2)
  Some (event.Hear viewer piece)

-- connect V, cut V, close V
abbrev pub only_viewer : List (List ℕ) → Option ℕ
only_viewer ws = if length ws == 2 then viewer_number (word ws 1) else None

abbrev pub started_by : Option Config → Line
started_by None = line.Bad
started_by (Some c) = line.Start c

abbrev pub done_by : Option Event → Line
done_by None = line.Bad
done_by (Some e) = line.Do e

abbrev pub command_of : Option Verb → List (List ℕ) → Line
command_of None ws = line.Bad
command_of (Some verb.Screen) ws = started_by (config_of ws)
command_of (Some verb.Write) ws = done_by (if length ws == 6 then write_of ws else None)
command_of (Some verb.Paint) ws = done_by (if length ws == 6 then paint_of ws else None)
command_of (Some verb.Mark) ws = done_by (mark_of ws)
command_of (Some verb.Schedule) ws = done_by (schedule_of ws)
command_of (Some verb.DoCopy) ws = done_by (copy_of ws)
command_of (Some verb.Bell) ws = done_by (bell_of ws)
command_of (Some verb.CutText) ws = done_by (text_of ws)
command_of (Some verb.Resize) ws = done_by (resize_of ws)
command_of (Some verb.Connect) ws = done_by (option_map (λ v. event.Connect v) (only_viewer ws))
command_of (Some verb.Hear) ws = done_by (if length ws == 3 then hear_of ws else None)
command_of (Some verb.Cut) ws = done_by (option_map (λ v. event.Cut v) (only_viewer ws))
command_of (Some verb.Close) ws = done_by (option_map (λ v. event.Close v) (only_viewer ws))

abbrev words_say : List (List ℕ) → Line
words_say ws = command_of (verb_of (word ws 0)) ws

abbrev pub line_of : List ℕ → Line
line_of l = if is_skipped l then line.Skipped else words_say (words_of l)
