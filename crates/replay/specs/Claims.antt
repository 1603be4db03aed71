-- What was recorded is read back.
use Rattle.std.specs.Prelude.{◌≡◌, ℕ, ◌+◌, ◌<◌, ◌⊎◌, true, false, Some, None, List, [], ◌∷◌, ◌++◌, length, take, map, codes, option_map}
use Rattle.messages.specs.Reading.{Conversation, hear}
use Rattle.redaction.specs.Redaction.{is_secret}
use Rattle.redaction.specs.Sessions.{conversation_of}
use Rattle.screen.specs.declared.Event.TheVariants as event
use Rattle.std.specs.List.{AllByRecursion}
use Rattle.replay.specs.declared.replaying.Asked.{Asked}
use Rattle.replay.specs.BadLines.{first_bad_line}
use Rattle.replay.specs.Pictures.{drawn_in}
use Rattle.replay.specs.Redacted.{redacted_text, redacted_session, events_behind}
use Rattle.screen.specs.declared.Config.{Config}
use Rattle.screen.specs.declared.Event.{Event}
use Rattle.scene.specs.Answers.{picture_of}
use Rattle.scene.specs.History.{accepted}
use Rattle.receipts.specs.Histories.{bytes_of}
use Rattle.recorder.specs.Events.{screen_line, event_line, session_text}
use Rattle.play_script.specs.declared.lines.Line.{Line}
use Rattle.play_script.specs.declared.lines.Line.TheVariants.{Skipped, Start, Do}
use Rattle.replay.specs.Lines.{session_line}
use Rattle.replay.specs.Reading.{has_feed}
use Rattle.replay.specs.Sessions.{Session, whole_lines, lines_said, session_of, sent_in}
use Rattle.replay.specs.Said.{said_event, said_config, said_session, IsSound, IsSoundConfig, AreSound, IsRun}

-- a text is one line, with its line feed, and says this
pub record IsLine (text : List ℕ) (said : Line) : Type 0 where
  pub line : List ℕ
  pub text_is : text ≡ line ++ codes "\n"
  pub is_one : has_feed line ≡ false
  pub says : session_line line ≡ said

-- The line of what is sound says it.
pub record lines_are_read : Type 0 where
  pub screen : (c : Config) → IsSoundConfig c → IsLine (screen_line c) (Start (said_config c))
  pub event : (e : Event) → IsSound e → IsLine (event_line e) (Do (said_event e))

-- What is sound is read back from its text; and of the text's first lines, the first events.
pub record sessions_are_read : Type 0 where
  pub all : (c : Config) (es : List Event) (lines : ℕ) → AreSound c es → length es < lines → session_of lines (session_text c es) ≡ Some (said_session c es)
  pub first : (c : Config) (es : List Event) (count : ℕ) → AreSound c es → session_of (count + 1) (session_text c es) ≡ Some (said_session c (take count es))

-- A text that is cut anywhere has no whole line, or those of its first events, and says nothing or these.
pub record beginnings_are_sessions : Type 0 where
  pub lines : (c : Config) (es : List Event) (n : ℕ) → AreSound c es
      → (whole_lines (take n (session_text c es)) ≡ []) ⊎ ((count : ℕ) × (whole_lines (take n (session_text c es)) ≡ whole_lines (session_text c (take count es))))
  pub read : (c : Config) (es : List Event) (n lines : ℕ) → AreSound c es
      → (session_of lines (take n (session_text c es)) ≡ None) ⊎ ((count : ℕ) × (session_of lines (take n (session_text c es)) ≡ Some (said_session c (take count es))))

-- Of what is said, each viewer is sent the same bytes, and the same is drawn.
pub record said_is_answered_alike : Type 0 where
  pub bytes : (c : Config) (v : ℕ) (es : List Event) → bytes_of (said_config c) v (map said_event es) ≡ bytes_of c v es
  pub picture : (c : Config) (es : List Event) → picture_of (said_config c) (map said_event es) ≡ picture_of c es

-- What happened sends each viewer what all events send it.
abbrev pub accepted_is_sent : Type 0
accepted_is_sent = (c : Config) (v : ℕ) (es : List Event) → bytes_of c v (accepted c es) ≡ bytes_of c v es

-- What happened is sound.
abbrev pub accepted_is_sound : Type 0
accepted_is_sound = (c : Config) (list : List Event) → IsRun c list → AreSound c (accepted c list)

-- What is read of a record sends each viewer what it was sent, and what is read of a beginning, its beginning.
pub record recorded_is_replayed : Type 0 where
  pub all : (c : Config) (list : List Event) (v lines : ℕ) → IsRun c list → length (accepted c list) < lines
      → sent_in v (session_of lines (session_text c (accepted c list))) ≡ bytes_of c v list
  pub beginning : (c : Config) (list : List Event) (v lines n : ℕ) → IsRun c list
      → (rest : List ℕ) × (sent_in v (session_of lines (take n (session_text c (accepted c list)))) ++ rest ≡ bytes_of c v list)

-- What a redacted text says is the redacted session, whatever the text: so each viewer is sent the same bytes, and the same is drawn.
pub record redacted_is_read : Type 0 where
  pub session : (lines : ℕ) (text : List ℕ) → session_of lines (redacted_text lines text) ≡ option_map redacted_session (session_of lines text)
  pub sent : (lines : ℕ) (text : List ℕ) (v : ℕ) → sent_in v (session_of lines (redacted_text lines text)) ≡ sent_in v (session_of lines text)
  pub drawn : (lines : ℕ) (text : List ℕ) → drawn_in (session_of lines (redacted_text lines text)) ≡ drawn_in (session_of lines text)

-- two lines let a piece be heard of a viewer, and the pieces differ in a byte that is secret behind these events
pub record DifferInSecret (events : List Event) (one other : List ℕ) : Type 0 where
  pub viewer : ℕ
  pub heard : Conversation
  pub front : List ℕ
  pub back : List ℕ
  pub byte : ℕ
  pub byte_of_other : ℕ
  pub is_there : conversation_of viewer events ≡ Some heard
  pub is_secret : is_secret (hear heard front) ≡ true
  pub one_says : session_line one ≡ Do (event.Hear viewer (front ++ byte ∷ back))
  pub other_says : session_line other ≡ Do (event.Hear viewer (front ++ byte_of_other ∷ back))

-- Texts whose lines are the same but for one such line have the same redacted text.
abbrev pub secrets_are_not_written : Type 0
secrets_are_not_written = (lines : ℕ) (text other : List ℕ) (front back : List (List ℕ)) (l m : List ℕ) → take lines (whole_lines text) ≡ front ++ l ∷ back → take lines (whole_lines other) ≡ front ++ m ∷ back
    → DifferInSecret (events_behind [] front) l m → redacted_text lines text ≡ redacted_text lines other

-- Where no line is bad, the lines say a session, or nothing: there is no screen yet.
abbrev pub good_lines_are_read : Type 0
good_lines_are_read = (asked : Asked) (text : List ℕ) → first_bad_line asked text ≡ None
    → AllByRecursion (λ l. l ≡ Skipped) (lines_said asked.lines text) ⊎ ((s : Session) × (session_of asked.lines text ≡ Some s))
