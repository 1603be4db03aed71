-- What a line of a session says: what a script's line says, and what only a session has.
use Rattle.std.specs.Prelude.{ℕ, ◌^◌, ◌==◌, ◌||◌, if◌then◌else◌, List, [], ◌∷◌, length, drop, codes, bytes_eq, ℤ, pos, neg_ℤ, Option, Some, None}
use Rattle.region.specs.declared.Rect.{Rect}
use Rattle.screen.specs.declared.Config.{Config}
use Rattle.screen.specs.declared.History.TheVariants.{NotKept}
use Rattle.screen.specs.declared.Event.{Event}
use Rattle.screen.specs.declared.Event.TheVariants as event
use Rattle.play_script.specs.declared.lines.Line.{Line}
use Rattle.play_script.specs.declared.lines.Line.TheVariants as line
use Rattle.play_script.specs.Words.{words_of, word, number, signed, hex_bytes}
use Rattle.play_script.specs.Lines.{◌>>=◌, line_of, started_by, done_by}
use Rattle.replay.specs.declared.lines.Verb.{Verb}
use Rattle.replay.specs.declared.lines.Verb.TheVariants as verb

-- a corner or an offset: a number of a script, or -2^31
abbrev pub corner : List ℕ → Option ℤ
corner w = if bytes_eq w (codes "-2147483648") then Some (neg_ℤ (pos (2 ^ 31))) else signed w

-- a number for each word
abbrev pub corners : List (List ℕ) → Option (List ℤ)
corners [] = Some []
corners (w ∷ ws) = do
  n ← corner w
  ns ← corners ws
  Some (n ∷ ns)

-- X1 Y1 X2 Y2 ..: a rectangle for each four numbers
abbrev pub rects_of : List ℤ → List Rect
rects_of (x1 ∷ y1 ∷ x2 ∷ y2 ∷ ns) = record { x1 = x1; y1 = y1; x2 = x2; y2 = y2 } ∷ rects_of ns
rects_of (x ∷ y ∷ z ∷ []) = []
rects_of (x ∷ y ∷ []) = []
rects_of (x ∷ []) = []
rects_of [] = []

-- and the numbers behind these
abbrev pub behind_rects : List ℤ → List ℤ
behind_rects (x1 ∷ y1 ∷ x2 ∷ y2 ∷ ns) = behind_rects ns
behind_rects (x ∷ y ∷ z ∷ []) = x ∷ y ∷ z ∷ []
behind_rects (x ∷ y ∷ []) = x ∷ y ∷ []
behind_rects (x ∷ []) = x ∷ []
behind_rects [] = []

-- the commands of a region of any number of rectangles
abbrev pub verb_of : List ℕ → Option Verb
verb_of w =
    if bytes_eq w (codes "mark") || bytes_eq w (codes "marks") then Some verb.Mark
    else (if bytes_eq w (codes "schedule") || bytes_eq w (codes "schedules") then Some verb.Schedule
    else (if bytes_eq w (codes "docopy") || bytes_eq w (codes "docopies") then Some verb.DoCopy
    else (if bytes_eq w (codes "desktop") then Some verb.Desktop
    else None)))

-- desktop W H HEX LIMIT
unfoldable pub desktop_in : List (List ℕ) → Option Config
desktop_in ws = do
  width ← number (word ws 1)
  height ← number (word ws 2)
  name ← hex_bytes (word ws 3)
  limit ← number (word ws 4)
  Some (record { width = width; height = height; name = name; rects_per_update = limit; history = NotKept })

abbrev pub desktop_of : List (List ℕ) → Option Config
desktop_of ws = if length ws == 5 then desktop_in ws else None

-- marks X1 Y1 X2 Y2 .., and schedules X1 Y1 X2 Y2 .. DX DY, and docopies likewise
abbrev pub region_event : Verb → List Rect → List ℤ → Option Event
region_event verb.Mark rs [] = Some (event.Mark rs)
region_event verb.Schedule rs (dx ∷ dy ∷ []) = Some (event.ScheduleCopy rs dx dy)
region_event verb.DoCopy rs (dx ∷ dy ∷ []) = Some (event.DoCopy rs dx dy)
region_event _ _ _ = None

abbrev pub region_of : Verb → List (List ℕ) → Option Event
region_of v ws = do
  ns ← corners (drop 1 ws)
  region_event v (rects_of ns) (behind_rects ns)

abbrev pub own_command : Option Verb → List (List ℕ) → Line
own_command None ws = line.Bad
own_command (Some verb.Desktop) ws = started_by (desktop_of ws)
own_command (Some verb.Mark) ws = done_by (region_of verb.Mark ws)
own_command (Some verb.Schedule) ws = done_by (region_of verb.Schedule ws)
own_command (Some verb.DoCopy) ws = done_by (region_of verb.DoCopy ws)

-- what a script says there, and where it says nothing, what only a session says
abbrev pub unless_bad : Line → Line → Line
unless_bad line.Bad own = own
unless_bad line.Skipped own = line.Skipped
unless_bad (line.Start c) own = line.Start c
unless_bad (line.Do e) own = line.Do e

abbrev pub own_line : List (List ℕ) → Line
own_line ws = own_command (verb_of (word ws 0)) ws

abbrev pub session_line : List ℕ → Line
session_line l = unless_bad (line_of l) (own_line (words_of l))
