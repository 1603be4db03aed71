-- What a session says: its screen, and what happened to it.
use Rattle.std.specs.Prelude.{ℕ, List, [], ◌∷◌, take, map, Option, Some, None, option_map}
use Rattle.screen.specs.declared.Config.{Config}
use Rattle.screen.specs.declared.Event.{Event}
use Rattle.play_script.specs.declared.lines.Line.{Line}
use Rattle.play_script.specs.declared.lines.Line.TheVariants.{Skipped, Start, Do, Bad}
use Rattle.play_script.specs.Words.{lines_of}
use Rattle.receipts.specs.Histories.{bytes_of}
use Rattle.replay.specs.Lines.{session_line}

pub record Session : Type 0 where
  pub config : Config
  pub events : List Event

-- the lines that a line feed ends: what stands behind the last one is left out, since it may be the beginning of a line that was cut
abbrev pub whole_of : List (List ℕ) → List (List ℕ)
whole_of [] = []
whole_of (l ∷ []) = []
whole_of (l ∷ m ∷ ls) = l ∷ whole_of (m ∷ ls)

abbrev pub whole_lines : List ℕ → List (List ℕ)
whole_lines text = whole_of (lines_of text)

-- the events of lines that have no screen
abbrev pub events_of : List Line → Option (List Event)
events_of [] = Some []
events_of (Skipped ∷ ls) = events_of ls
events_of (Do e ∷ ls) = option_map (λ es. e ∷ es) (events_of ls)
events_of (Start c ∷ ls) = None
events_of (Bad ∷ ls) = None

abbrev pub begun_with : Config → Option (List Event) → Option Session
begun_with c es = option_map (λ events. record { config = c; events = events }) es

-- the screen comes first, and then events; where there is no screen yet, nothing is said
abbrev pub said_by : List Line → Option Session
said_by [] = None
said_by (Skipped ∷ ls) = said_by ls
said_by (Start c ∷ ls) = begun_with c (events_of ls)
said_by (Do e ∷ ls) = None
said_by (Bad ∷ ls) = None

-- what the first whole lines of a text say
abbrev pub lines_said : ℕ → List ℕ → List Line
lines_said lines text = map session_line (take lines (whole_lines text))

abbrev pub session_of : ℕ → List ℕ → Option Session
session_of lines text = said_by (lines_said lines text)

-- what a viewer was sent in a session
abbrev pub sent_in : ℕ → Option Session → List ℕ
sent_in v None = []
sent_in v (Some s) = bytes_of s.config v s.events
