-- A session's events with zeros in the place of what is secret of its viewers' bytes.
use Rattle.std.specs.Prelude.{ℕ, ◌==◌, if◌then◌else◌, List, [], ◌∷◌, ◌++◌, length, replicate, fold, Option, Some, None, option_map, unwrap_or}
use Rattle.messages.specs.Reading.{Conversation, nothing_heard, hear}
use Rattle.scene.specs.declared.Event.{Event}
use Rattle.scene.specs.declared.Event.TheVariants.{Connect, Hear, Close}
use Rattle.redaction.specs.Redaction.{redacted_from}

-- what was heard of a viewer, with an event more. A viewer that is there stays when it connects again, which a screen refuses.
abbrev pub heard_next : ℕ → Option Conversation → Event → Option Conversation
heard_next v o (Connect n) = if n == v then Some (unwrap_or o nothing_heard) else o
heard_next v o (Hear n piece) = if n == v then option_map (λ h. hear h piece) o else o
heard_next v o (Close n) = if n == v then None else o
heard_next v o _ = o

-- what was heard of a viewer since it connected, where it is there
abbrev pub conversation_of : ℕ → List Event → Option Conversation
conversation_of v es = fold (heard_next v) None es

-- a piece behind it. Of a viewer that isn't there nothing is heard.
abbrev pub redacted_piece : Option Conversation → List ℕ → List ℕ
redacted_piece None piece = replicate (length piece) 0
redacted_piece (Some h) piece = redacted_from h piece

-- an event that comes after others
abbrev pub redacted_event : List Event → Event → Event
redacted_event before (Hear n piece) = Hear n (redacted_piece (conversation_of n before) piece)
redacted_event before e = e

abbrev pub redacted_after : List Event → List Event → List Event
redacted_after before [] = []
redacted_after before (e ∷ es) = redacted_event before e ∷ redacted_after (before ++ e ∷ []) es

-- the events of a session
abbrev pub redacted : List Event → List Event
redacted es = redacted_after [] es
