-- A session's text with zeros in the place of what is secret of its viewers' bytes.
use Rattle.std.specs.Prelude.{ℕ, List, [], ◌∷◌, ◌++◌, take, codes}
use Rattle.screen.specs.declared.Event.{Event}
use Rattle.screen.specs.declared.Event.TheVariants.{Hear}
use Rattle.play_script.specs.declared.lines.Line.{Line}
use Rattle.play_script.specs.declared.lines.Line.TheVariants.{Do}
use Rattle.recorder.specs.Events.{event_line}
use Rattle.redaction.specs.Sessions.{redacted_event, redacted}
use Rattle.replay.specs.Lines.{session_line}
use Rattle.replay.specs.Sessions.{Session, whole_lines}

-- a line, with its line feed
abbrev pub copied : List ℕ → List ℕ
copied line = line ++ codes "\n"

-- what stands for a line that has an event, by the event that is left of it: what was heard is written anew
abbrev pub line_for : List ℕ → Event → List ℕ
line_for line (Hear v piece) = event_line (Hear v piece)
line_for line e = copied line

-- what stands for a line, by what it says, behind these events
abbrev pub redacted_as : List Event → List ℕ → Line → List ℕ
redacted_as before line (Do e) = line_for line (redacted_event before e)
redacted_as before line said = copied line

-- these events, and that of a line
abbrev pub with_said : List Event → Line → List Event
with_said before (Do e) = before ++ e ∷ []
with_said before said = before

-- what stands for lines
abbrev pub redacted_lines : List Event → List (List ℕ) → List ℕ
redacted_lines before [] = []
redacted_lines before (line ∷ lines) = redacted_as before line (session_line line) ++ redacted_lines (with_said before (session_line line)) lines

-- what stands for the first whole lines of a text
abbrev pub redacted_text : ℕ → List ℕ → List ℕ
redacted_text lines text = redacted_lines [] (take lines (whole_lines text))

-- a session with zeros in the place of what is secret
abbrev pub redacted_session : Session → Session
redacted_session s = record { config = s.config; events = redacted s.events }

-- the events of lines, behind these
abbrev pub events_behind : List Event → List (List ℕ) → List Event
events_behind before [] = before
events_behind before (line ∷ lines) = events_behind (with_said before (session_line line)) lines
