-- The first line at which a session is bad, for a question.
use Rattle.std.specs.Prelude.{ℕ, ◌+◌, Bool, true, false, ◌&&◌, if◌then◌else◌, List, [], ◌∷◌, ◌++◌, Option, Some, None, option_map, is_some, not}
use Rattle.screen.specs.declared.Config.{Config}
use Rattle.screen.specs.declared.Event.{Event}
use Rattle.screen.specs.Alone.{owner_of, config_refusal}
use Rattle.screen.specs.Answers.{is_owner, is_drawing, answer_to}
use Rattle.play_script.specs.declared.lines.Line.{Line}
use Rattle.play_script.specs.declared.lines.Line.TheVariants.{Skipped, Start, Do, Bad}
use Rattle.replay.specs.Sessions.{lines_said}
use Rattle.replay.specs.declared.replaying.Asked.{Asked}
use Rattle.replay.specs.declared.replaying.Question.{Question}
use Rattle.replay.specs.declared.replaying.Question.TheVariants.{Viewers, Sent, Seen, Drawn, Redacted}

-- whether a question needs an event: of a viewer the drawing calls and its own, of what was drawn the drawing calls; to leave
-- out what is secret it needs none done
abbrev pub needs : Question → Event → Bool
needs Viewers e = true
needs (Sent v) e = is_owner v (owner_of e)
needs (Seen v) e = is_owner v (owner_of e)
needs Drawn e = is_drawing (owner_of e)
needs Redacted e = false

-- whether the question needs an event that is refused, behind those that it needed before
abbrev pub is_refused : Question → Config → List Event → Event → Bool
is_refused q c before e = needs q e && is_some (answer_to c before e).refused

-- the events that it needed, with one more if it needs it
abbrev pub needed_with : Question → List Event → Event → List Event
needed_with q before e = if needs q e then before ++ e ∷ [] else before

-- the number of the first bad line behind the screen's, of which so many stand before: one that says nothing, a second screen, or a
-- refused event
abbrev pub bad_behind : Question → Config → List Event → ℕ → List Line → Option ℕ
bad_behind q c before n [] = None
bad_behind q c before n (Skipped ∷ ls) = bad_behind q c before (n + 1) ls
bad_behind q c before n (Do e ∷ ls) = if is_refused q c before e then Some (n + 1) else bad_behind q c (needed_with q before e) (n + 1) ls
bad_behind q c before n (Start d ∷ ls) = Some (n + 1)
bad_behind q c before n (Bad ∷ ls) = Some (n + 1)

-- the same of all lines, among which the screen's comes first: it is bad where it is refused
abbrev pub bad_from : Question → ℕ → List Line → Option ℕ
bad_from q n [] = None
bad_from q n (Skipped ∷ ls) = bad_from q (n + 1) ls
bad_from q n (Start c ∷ ls) = if is_some (config_refusal c) then Some (n + 1) else bad_behind q c [] (n + 1) ls
bad_from q n (Do e ∷ ls) = Some (n + 1)
bad_from q n (Bad ∷ ls) = Some (n + 1)

-- the first line of a text that is bad for what is asked, counted from 1
abbrev pub first_bad_line : Asked → List ℕ → Option ℕ
first_bad_line asked text = bad_from asked.question 0 (lines_said asked.lines text)

-- the events of lines that a question needs, where no line has a screen or is bad
abbrev pub needed_of : Question → List Line → Option (List Event)
needed_of q [] = Some []
needed_of q (Skipped ∷ ls) = needed_of q ls
needed_of q (Do e ∷ ls) = if needs q e then option_map (λ es. e ∷ es) (needed_of q ls) else needed_of q ls
needed_of q (Start c ∷ ls) = None
needed_of q (Bad ∷ ls) = None

-- whether a line may stand behind the screen's, or before it
abbrev pub may_stand : Bool → Line → Bool
may_stand has_screen Skipped = true
may_stand true (Start c) = false
may_stand false (Start c) = not (is_some (config_refusal c))
may_stand has_screen (Do e) = has_screen
may_stand has_screen Bad = false

-- whether there is a screen behind a line
abbrev pub has_screen_with : Bool → Line → Bool
has_screen_with has_screen (Start c) = true
has_screen_with has_screen Skipped = has_screen
has_screen_with has_screen (Do e) = has_screen
has_screen_with has_screen Bad = has_screen
