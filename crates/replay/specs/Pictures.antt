-- A picture as a portable pixmap (PPM, P6): its size, and red, green and blue for each place, row by row.
use Rattle.std.specs.Prelude.{◌≡◌, ℕ, ◌*◌, List, [], ◌++◌, flat_map, take, drop, codes, Option, Some, None}
use Rattle.std.specs.Fmt.{decimal}
use Rattle.std.specs.List.{range_with_len}
use Rattle.framebuffer.specs.Frame.{Frame}
use Rattle.screen.specs.State.{State}
use Rattle.screen.specs.Answers.{picture_of}
use Rattle.recorder.specs.Words.{colour_bytes}
use Rattle.play_script.specs.declared.lines.Line.{Line}
use Rattle.replay.specs.Sessions.{Session, said_by}

abbrev pub pixmap_head : ℕ → ℕ → List ℕ
pixmap_head width height = codes "P6\n" ++ decimal width ++ codes " " ++ decimal height ++ codes "\n255\n"

-- the colours of a row
abbrev pub row_of : Frame → ℕ → List ℕ
row_of f y = take f.width (drop (y * f.width) f.colours)

abbrev pub pixmap : Frame → List ℕ
pixmap f = pixmap_head f.width f.height ++ flat_map (λ y. flat_map colour_bytes (row_of f y)) (range_with_len 0 f.height)

-- what was drawn in a session, and nothing where there is no screen yet
abbrev pub drawn_in : Option Session → List ℕ
drawn_in None = []
drawn_in (Some s) = pixmap (picture_of s.config s.events)

-- a screen holds what these lines drew, or there is none yet
abbrev pub Draws : Option State → List Line → Type 0
Draws None ls = said_by ls ≡ None
Draws (Some s) ls = (t : Session) × (said_by ls ≡ Some t) × (s.picture ≡ picture_of t.config t.events)
