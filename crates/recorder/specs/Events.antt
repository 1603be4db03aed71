-- What a session says: its screen, and then a line for each event.
use Rattle.std.specs.Prelude.{ℕ, if◌then◌else◌, List, [], ◌∷◌, ◌++◌, flat_map, codes, ℤ}
use Rattle.std.specs.Fmt.{decimal, signed_decimal}
use Rattle.region.specs.declared.Rect.{Rect}
use Rattle.scene.specs.declared.Config.{Config}
use Rattle.scene.specs.declared.Event.{Event}
use Rattle.scene.specs.declared.Event.TheVariants as event
use Rattle.recorder.specs.Words.{hex_word, pixels_word, spaced, corner_words, place_words, is_plain_name, name_word}

-- a line: a command, its words, and a line feed
abbrev pub line_of : List ℕ → List (List ℕ) → List ℕ
line_of command words = command ++ (spaced words ++ codes "\n")

-- a rectangle alone is a line of a script; other lists have a line of a session alone
abbrev pub mark_line : List Rect → List ℕ
mark_line (r ∷ []) = line_of (codes "mark") (corner_words r)
mark_line rs = line_of (codes "marks") (flat_map corner_words rs)

abbrev pub offset_words : ℤ → ℤ → List (List ℕ)
offset_words dx dy = signed_decimal dx ∷ signed_decimal dy ∷ []

abbrev pub copy_line : List ℕ → List ℕ → List Rect → ℤ → ℤ → List ℕ
copy_line one many (r ∷ []) dx dy = line_of one (corner_words r ++ offset_words dx dy)
copy_line one many rs dx dy = line_of many (flat_map corner_words rs ++ offset_words dx dy)

abbrev pub event_line : Event → List ℕ
event_line (event.Write rect colours) = line_of (codes "write") (place_words rect ++ pixels_word colours ∷ [])
event_line (event.Paint rect colours) = line_of (codes "paint") (place_words rect ++ pixels_word colours ∷ [])
event_line (event.Mark rects) = mark_line rects
event_line (event.ScheduleCopy rects dx dy) = copy_line (codes "schedule") (codes "schedules") rects dx dy
event_line (event.DoCopy rects dx dy) = copy_line (codes "docopy") (codes "docopies") rects dx dy
event_line event.Bell = line_of (codes "bell") []
event_line (event.CutText text) = line_of (codes "cuttext") (hex_word text ∷ [])
event_line (event.Resize width height) = line_of (codes "resize") (decimal width ∷ decimal height ∷ [])
event_line (event.Connect viewer) = line_of (codes "connect") (decimal viewer ∷ [])
event_line (event.Hear viewer piece) = line_of (codes "hear") (decimal viewer ∷ hex_word piece ∷ [])
event_line (event.Cut viewer) = line_of (codes "cut") (decimal viewer ∷ [])
event_line (event.Close viewer) = line_of (codes "close") (decimal viewer ∷ [])

-- W H NAME LIMIT
abbrev pub screen_words : List ℕ → Config → List (List ℕ)
screen_words name c = decimal c.width ∷ decimal c.height ∷ name ∷ decimal c.rects_per_update ∷ []

-- screen W H NAME LIMIT, or desktop W H HEX LIMIT where a script can't say the name
abbrev pub screen_line : Config → List ℕ
screen_line c = if is_plain_name c.name then line_of (codes "screen") (screen_words (name_word c.name) c) else line_of (codes "desktop") (screen_words (hex_word c.name) c)

-- a session: what its screen is, and what happened to it
abbrev pub session_text : Config → List Event → List ℕ
session_text c es = screen_line c ++ flat_map event_line es
