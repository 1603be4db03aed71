-- What a redacted session keeps, and what it doesn't.
use Rattle.std.specs.Prelude.{◌≡◌, ℕ, true, List, [], ◌∷◌, ◌++◌, map, Some}
use Rattle.messages.specs.Reading.{Conversation, hear}
use Rattle.scene.specs.declared.Answer.{Answer}
use Rattle.scene.specs.declared.Config.{Config}
use Rattle.scene.specs.declared.Event.{Event}
use Rattle.scene.specs.declared.Event.TheVariants.{Hear}
use Rattle.scene.specs.Answers.{answers, picture_of}
use Rattle.receipts.specs.Histories.{bytes_of}
use Rattle.redaction.specs.Redaction.{is_secret}
use Rattle.redaction.specs.Sessions.{conversation_of, redacted}

-- an answer, but for the inputs that the application is told
abbrev pub but_inputs : Answer → Answer
but_inputs a = record a { inputs = [] }

-- Whatever the events: each is answered alike but for inputs, each viewer is sent the same bytes, and the same is drawn.
pub record redacted_is_answered_alike : Type 0 where
  pub answers : (c : Config) (es : List Event) → map but_inputs (answers c (redacted es)) ≡ map but_inputs (answers c es)
  pub bytes : (c : Config) (v : ℕ) (es : List Event) → bytes_of c v (redacted es) ≡ bytes_of c v es
  pub picture : (c : Config) (es : List Event) → picture_of c (redacted es) ≡ picture_of c es

-- Whichever a secret byte of a viewer's piece is, the redacted session is the same.
abbrev pub secrets_leave_no_trace : Type 0
secrets_leave_no_trace = (before behind : List Event) (v : ℕ) (h : Conversation) (front back : List ℕ) (b d : ℕ) → conversation_of v before ≡ Some h → is_secret (hear h front) ≡ true
    → redacted (before ++ Hear v (front ++ b ∷ back) ∷ behind) ≡ redacted (before ++ Hear v (front ++ d ∷ back) ∷ behind)
