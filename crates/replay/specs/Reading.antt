-- What is read of a session, where the reader tells its bytes.
use Rattle.std.specs.Prelude.{◌≡◌, ◌==◌, ◌<◌, ◌≤◌, ◌+◌, ℕ, ⊤, List, [], ◌∷◌, ◌++◌, length, take, Bool, true, false, Option, Some, None, option_map, map, is_some, IfSome, Result, Ok, Err}
use Rattle.std.specs.List.{list_any}
use Rattle.std.specs.Io.KnownBytes.{Appends, Consumes, IsAtEnd}
use Rattle.screen.specs.declared.Config.{Config}
use Rattle.screen.specs.declared.Event.{Event}
use Rattle.screen.specs.declared.Answer.{Answer}
use Rattle.screen.specs.State.{State, state}
use Rattle.screen.specs.Answers.{answer_to}
use Rattle.play_script.specs.declared.lines.Line.{Line}
use Rattle.replay.specs.Sessions.{whole_lines, events_of, begun_with, said_by, lines_said, sent_in}
use Rattle.replay.specs.BadLines.{bad_behind, bad_from, first_bad_line, needed_of}
use Rattle.play_script.specs.Texts.{bad_line}
use Rattle.replay.specs.Pictures.{drawn_in}
use Rattle.replay.specs.Redacted.{redacted_lines}
use Rattle.replay.specs.Lines.{session_line}
use Rattle.replay.specs.declared.answered.Answered.{Answered}
use Rattle.replay.specs.declared.stop.Stop.{Stop}
use Rattle.replay.specs.declared.stop.Stop.TheVariants.{BadLine, Trouble}
use Rattle.replay.specs.declared.reading.PieceEnd.{PieceEnd}
use Rattle.replay.specs.declared.reading.PieceEnd.TheVariants.{LineFeed, Room, Input}
use Rattle.replay.specs.declared.replaying.Asked.{Asked}
use Rattle.replay.specs.declared.replaying.Question.{Question}
use Rattle.replay.specs.declared.replaying.Question.TheVariants.{Viewers, Sent, Seen, Drawn, Redacted}

-- whether bytes have a line feed
abbrev pub has_feed : List ℕ → Bool
has_feed bytes = list_any (λ b. b == 10) bytes

-- the first bytes are a piece of a line; with its line feed they are so many
abbrev pub IsPiece : (bytes : List ℕ) → (count taken : ℕ) → PieceEnd → Type 0
IsPiece bytes count taken LineFeed = (taken ≤ length bytes) × (count ≤ length bytes) × (has_feed (take count bytes) ≡ false) × (take taken bytes ≡ take count bytes ++ 10 ∷ [])
IsPiece bytes count taken Room = (count ≡ length bytes) × (taken ≡ count) × (has_feed (take count bytes) ≡ false) × (0 < count)
IsPiece bytes count taken Input = (count ≡ 0) × (taken ≡ 0) × (length bytes ≡ 0)

-- a piece of a line was taken from what is left, and stands behind what there was of the line
abbrev pub TakesPiece : Option (List ℕ) → Option (List ℕ) → List ℕ → List ℕ → PieceEnd → Type 0
TakesPiece left rest old new LineFeed = (piece : List ℕ) × (new ≡ old ++ piece) × (has_feed piece ≡ false) × Consumes left rest (piece ++ 10 ∷ [])
TakesPiece left rest old new Room = (piece : List ℕ) × (new ≡ old ++ piece) × (has_feed piece ≡ false) × Consumes left rest piece × (0 < length piece)
TakesPiece left rest old new Input = (new ≡ old) × IsAtEnd left

-- a whole line was taken from what is left, or there was none
abbrev pub TakesLine : Option (List ℕ) → Option (List ℕ) → List ℕ → Bool → Type 0
TakesLine None new line found = ⊤
TakesLine (Some text) new line false = whole_lines text ≡ []
TakesLine (Some text) None line true = ⊥
TakesLine (Some text) (Some rest) line true = whole_lines text ≡ line ∷ whole_lines rest

-- so many lines, of what is left
abbrev pub lines_ahead : ℕ → Option (List ℕ) → Option (List (List ℕ))
lines_ahead lines left = option_map (λ text. take lines (whole_lines text)) left

-- the next line is this one and says this, and the rest is left; or there is none
abbrev pub NextText : Option (List (List ℕ)) → Option (List (List ℕ)) → List ℕ → Option Line → Type 0
NextText None new line found = ⊤
NextText (Some ls) new line None = ls ≡ []
NextText (Some ls) None line (Some said) = ⊥
NextText (Some ls) (Some rest) line (Some said) = (ls ≡ line ∷ rest) × (said ≡ session_line line)

-- what so many lines say, of what is left
abbrev pub ahead : ℕ → Option (List ℕ) → Option (List Line)
ahead lines left = option_map (λ text. lines_said lines text) left

-- the next line says this, and the rest what is left; or there is none
abbrev pub NextLine : Option (List Line) → Option (List Line) → Option Line → Type 0
NextLine None new found = ⊤
NextLine (Some ls) new None = ls ≡ []
NextLine (Some ls) None (Some l) = ⊥
NextLine (Some ls) (Some rest) (Some l) = ls ≡ l ∷ rest

-- known lines were read, and are left
abbrev pub Both : {A : Type 0} → Option (List A) → Option (List A) → (List A → List A → Type 0) → Type 0
Both None new P = ⊤
Both (Some ls) None P = ⊥
Both (Some ls) (Some rest) P = P ls rest

-- the screen was made and is blank, and these lines are left of these
abbrev pub Begins : Question → ℕ → ℕ → State → List Line → List Line → Type 0
Begins q n m s ls rest = (c : Config) × (s ≡ state c []) × (said_by ls ≡ begun_with c (events_of rest)) × (bad_from q n ls ≡ bad_behind q c [] m rest)

-- behind so many lines the screen was made, or there is none yet; or the last one of so many is bad
abbrev pub Opens : Question → Option (List Line) → Option (List Line) → ℕ → ℕ → Result (Option State) Stop → Type 0
Opens q old new n m (Ok (Some s)) = Both old new (Begins q n m s)
Opens q old new n m (Ok None) = IfSome old (λ ls. (said_by ls ≡ None) × (bad_from q n ls ≡ None))
Opens q old new n m (Err BadLine) = IfSome old (λ ls. bad_from q n ls ≡ Some m)
Opens q old new n m (Err (Trouble t)) = ⊤

-- the screen did an event and answered it, or refused it
abbrev pub Performs : Config → List Event → Event → State → Result Answer Stop → Type 0
Performs c before e s (Ok a) = (s ≡ state c (before ++ e ∷ [])) × (a ≡ answer_to c before e) × (is_some (answer_to c before e).refused ≡ false)
Performs c before e s (Err BadLine) = is_some (answer_to c before e).refused ≡ true
Performs c before e s (Err (Trouble t)) = ⊤

-- the screen did an event that the question needed
abbrev pub Did : Config → List Event → State → Answered → Type 0
Did c before s a = (s ≡ state c (before ++ a.event ∷ [])) × (a.answer ≡ answer_to c before a.event)

-- of a line, the screen did its event; or the question needs none of it; or it is bad
abbrev pub Steps : Question → Config → List Event → Line → State → Result (Option Answered) Stop → Type 0
Steps q c before l s (Ok None) = (rest : List Line) → (needed_of q (l ∷ rest) ≡ needed_of q rest) × ((n : ℕ) → bad_behind q c before n (l ∷ rest) ≡ bad_behind q c before (n + 1) rest)
Steps q c before l s (Ok (Some a)) = Did c before s a × ((rest : List Line) → (needed_of q (l ∷ rest) ≡ option_map (λ es. a.event ∷ es) (needed_of q rest))
    × ((n : ℕ) → bad_behind q c before n (l ∷ rest) ≡ bad_behind q c (before ++ a.event ∷ []) (n + 1) rest))
Steps q c before l s (Err BadLine) = (rest : List Line) (n : ℕ) → bad_behind q c before n (l ∷ rest) ≡ Some (n + 1)
Steps q c before l s (Err (Trouble t)) = ⊤

-- the same of the lines up to the next event that the question needs, which is the last one of so many
abbrev pub StepsOn : Question → Config → List Event → State → ℕ → ℕ → Answered → List Line → List Line → Type 0
StepsOn q c before s n m a ls rest = Did c before s a × (needed_of q ls ≡ option_map (λ es. a.event ∷ es) (needed_of q rest)) × (bad_behind q c before n ls ≡ bad_behind q c (before ++ a.event ∷ []) m rest)

-- that was done, or there is none; or a line is bad, the last one of so many
abbrev pub GoesOn : Question → Config → List Event → State → Option (List Line) → Option (List Line) → ℕ → ℕ → Result (Option Answered) Stop → Type 0
GoesOn q c before s old new n m (Ok (Some a)) = Both old new (StepsOn q c before s n m a)
GoesOn q c before s old new n m (Ok None) = IfSome old (λ ls. (needed_of q ls ≡ Some []) × (bad_behind q c before n ls ≡ None))
GoesOn q c before s old new n m (Err BadLine) = IfSome old (λ ls. bad_behind q c before n ls ≡ Some m)
GoesOn q c before s old new n m (Err (Trouble t)) = ⊤

-- no line is bad where a question was answered, and the last one that was read is the first bad one where a line was
abbrev pub Judged : {X : Type 0} → Question → Option (List Line) → ℕ → ℕ → Result X Stop → Type 0
Judged q lines n m (Ok x) = IfSome lines (λ ls. bad_from q n ls ≡ None)
Judged q lines n m (Err BadLine) = IfSome lines (λ ls. bad_from q n ls ≡ Some m)
Judged q lines n m (Err (Trouble t)) = ⊤

-- known bytes grow
abbrev pub Grows : Option (List ℕ) → Option (List ℕ) → Type 0
Grows old new = (bytes : List ℕ) × Appends old new bytes

-- what was written answers a question to these lines; of viewers and of what one saw it says only that known bytes grew
abbrev pub AnswersTo : Question → List (List ℕ) → Option (List ℕ) → Option (List ℕ) → Type 0
AnswersTo (Sent v) ls old new = Appends old new (sent_in v (said_by (map session_line ls)))
AnswersTo Viewers ls old new = Grows old new
AnswersTo (Seen v) ls old new = Grows old new
AnswersTo Drawn ls old new = Appends old new (drawn_in (said_by (map session_line ls)))
AnswersTo Redacted ls old new = Appends old new (redacted_lines [] ls)

-- the same of a text
abbrev pub Answers : Asked → List ℕ → Option (List ℕ) → Option (List ℕ) → Type 0
Answers asked text old new = AnswersTo asked.question (take asked.lines (whole_lines text)) old new

-- `bad line N` was written of the first bad line of what was read
abbrev pub Names : Asked → Option (List ℕ) → Option (List ℕ) → Option (List ℕ) → Type 0
Names asked read old new = (n : ℕ) × Appends old new (bad_line n) × IfSome read (λ text. first_bad_line asked text ≡ Some n)
