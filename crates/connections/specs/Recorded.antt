-- What is written of what happened to a screen, where it is.
use Rattle.std.specs.Prelude.{◌≡◌, ℕ, Bool, false, List, [], ◌++◌, Option, Some, None}
use Rattle.scribe.specs.Scribing.{Scribed, IsScribed}
use Rattle.recorder.specs.Events.{session_text}
use Rattle.screen.specs.declared.Config.{Config}
use Rattle.screen.specs.declared.Event.{Event}
use Rattle.screen.specs.declared.Answer.{Answer}
use Rattle.screen.specs.Alone.{gives}
use Rattle.viewer.specs.Given.{bytes_given}
use Rattle.screen.specs.History.{accepted}

-- a text was put behind what a writer held
abbrev pub IsScribedBy : Option (List ℕ) → List ℕ → Option Scribed → Type 0
IsScribedBy began text None = ⊥
IsScribedBy began text (Some s) = IsScribed began text s

-- more is put
abbrev pub PutsWhere : List ℕ → Option Scribed → Option Scribed → Type 0
PutsWhere more old new = (began : Option (List ℕ)) (text : List ℕ) → IsScribedBy began text old → IsScribedBy began (text ++ more) new

-- what waits was written, unless a write failed
abbrev pub IsFlushed : Option Scribed → Type 0
IsFlushed None = Unit {0}
IsFlushed (Some s) = s.broken ≡ false → s.waiting ≡ []

-- whether a write failed
abbrev pub is_broken : Option Scribed → Bool
is_broken None = false
is_broken (Some s) = s.broken

-- what a record's writer holds, where that is known; without a record nothing is
abbrev pub held_by : Option Scribed → Option (List ℕ)
held_by None = None
held_by (Some s) = s.held

-- a record stands for a list of events: it is the session of those that happened
abbrev pub IsRecordedBy : Option (List ℕ) → Config → List Event → Option Scribed → Type 0
IsRecordedBy began c list s = IsScribedBy began (session_text c (accepted c list)) s

-- a record that stood for a list stands for it with more events behind it
abbrev pub RecordsMore : Config → List Event → List Event → Option Scribed → Option Scribed → Type 0
RecordsMore c list more old new = (began : Option (List ℕ)) → IsRecordedBy began c list old → IsRecordedBy began c (list ++ more) new

-- what a cut gives, where it gives an update
abbrev pub cut_gives : Option (List ℕ) → Answer
cut_gives update = gives (bytes_given update)
