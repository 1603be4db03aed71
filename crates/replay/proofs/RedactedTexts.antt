-- A redacted text is read back, and tells nothing of secret bytes.
use Rattle.std.proofs.Common.{◌≡◌, ℕ, zero, suc, ◌<◌, ◌≤◌, Bool, true, false, eqb, List, [], ◌∷◌, ◌++◌, length, take, map, refl, sym, ap, ◌∙◌, arith, append_assoc, Option, Some, None, length-take}
use Rattle.std.specs.Prelude.{option_map}
use Rattle.std.specs.List.{AllByRecursion, onto_first}
use Rattle.std.proofs.lemmas.List.{append-nil, take-map, take_all, length-map}
use Rattle.messages.specs.Reading.{Conversation, hear}
use Rattle.screen.specs.declared.Event.{Event}
use Rattle.screen.specs.declared.Event.TheVariants as event
use Rattle.redaction.specs.Sessions.{conversation_of, redacted_piece, redacted_event, redacted_after, redacted}
use Rattle.redaction.specs.Redaction.{is_secret}
use Rattle.redaction.proofs.Sound.{piece_sound}
use Rattle.redaction.proofs.Scenes.{redacted_is_answered_alike-holds}
use Rattle.redaction.proofs.Traces.{redacted_append, secrets_leave_no_trace-holds}
use Rattle.recorder.specs.Events.{event_line}
use Rattle.play_script.specs.declared.lines.Line.{Line}
use Rattle.play_script.specs.declared.lines.Line.TheVariants.{Skipped, Start, Do, Bad}
use Rattle.play_script.specs.Words.{parts, next_part}
use Rattle.replay.specs.Lines.{session_line}
use Rattle.replay.specs.Reading.{has_feed}
use Rattle.replay.specs.Sessions.{Session, whole_of, whole_lines, events_of, begun_with, said_by, session_of, sent_in}
use Rattle.replay.specs.Pictures.{drawn_in, pixmap}
use Rattle.replay.specs.Redacted.{copied, line_for, redacted_as, with_said, redacted_lines, redacted_text, redacted_session, events_behind}
use Rattle.replay.specs.Claims.{IsLine, redacted_is_read, secrets_are_not_written}
use Rattle.replay.proofs.ReadsEvents.{event_says}
use Rattle.replay.proofs.ReadsSessions.{says_then}
use Rattle.replay.proofs.RedactedLines.{HearsSound, line_sound}

-- ---- lines have no line feeds

first_clean : (b : ℕ) (ps : List (List ℕ)) → eqb b 10 ≡ false → AllByRecursion (λ l. has_feed l ≡ false) ps → AllByRecursion (λ l. has_feed l ≡ false) (onto_first b ps)
first_clean b [] e h = (rw e refl, tt)
first_clean b (p ∷ ps) e h = (rw e h.0, h.1)

parts_clean : (bs : List ℕ) → AllByRecursion (λ l. has_feed l ≡ false) (parts 10 bs)
parts_clean [] = (refl, tt)
parts_clean (b ∷ bs) = go (eqb b 10) refl (parts_clean bs)
  where
    go : (t : Bool) → eqb b 10 ≡ t → AllByRecursion (λ l. has_feed l ≡ false) (parts 10 bs) → AllByRecursion (λ l. has_feed l ≡ false) (next_part t b (parts 10 bs))
    go true e h = (refl, h)
    go false e h = first_clean b (parts 10 bs) e h

whole_clean : (ps : List (List ℕ)) → AllByRecursion (λ l. has_feed l ≡ false) ps → AllByRecursion (λ l. has_feed l ≡ false) (whole_of ps)
whole_clean [] h = tt
whole_clean (p ∷ []) h = tt
whole_clean (p ∷ q ∷ ps) h = (h.0, whole_clean (q ∷ ps) h.1)

take_clean : (n : ℕ) (ps : List (List ℕ)) → AllByRecursion (λ l. has_feed l ≡ false) ps → AllByRecursion (λ l. has_feed l ≡ false) (take n ps)
take_clean zero ps h = tt
take_clean (suc n) [] h = tt
take_clean (suc n) (p ∷ ps) h = (h.0, take_clean n ps h.1)

-- ---- what a redacted line says

said_for : List Event → Line → Line
said_for before (Do e) = Do (redacted_event before e)
said_for before Skipped = Skipped
said_for before (Start c) = Start c
said_for before Bad = Bad

abbrev said_redacted : List Event → List Line → List Line
said_redacted before [] = []
said_redacted before (l ∷ ls) = said_for before l ∷ said_redacted (with_said before l) ls

copied_says : (line : List ℕ) (said : Line) → has_feed line ≡ false → session_line line ≡ said → IsLine (copied line) said
copied_says line said clean says = record { line = line; text_is = refl; is_one = clean; says = says }

line_says_redacted : (before : List Event) (line : List ℕ) (said : Line) → has_feed line ≡ false → session_line line ≡ said → HearsSound said → IsLine (redacted_as before line said) (said_for before said)
unfolding said_for
line_says_redacted before line Skipped clean says h = copied_says line Skipped clean says
line_says_redacted before line (Start c) clean says h = copied_says line (Start c) clean says
line_says_redacted before line Bad clean says h = copied_says line Bad clean says
line_says_redacted before line (Do (event.Hear v piece)) clean says h =
    event_says (event.Hear v (redacted_piece (conversation_of v before) piece)) (h.0, piece_sound (λ b. b < 256) (omega arith) (conversation_of v before) piece h.1)
line_says_redacted before line (Do (event.Write r cs)) clean says h = copied_says line _ clean says
line_says_redacted before line (Do (event.Paint r cs)) clean says h = copied_says line _ clean says
line_says_redacted before line (Do (event.Mark rs)) clean says h = copied_says line _ clean says
line_says_redacted before line (Do (event.ScheduleCopy rs dx dy)) clean says h = copied_says line _ clean says
line_says_redacted before line (Do (event.DoCopy rs dx dy)) clean says h = copied_says line _ clean says
line_says_redacted before line (Do event.Bell) clean says h = copied_says line _ clean says
line_says_redacted before line (Do (event.CutText text)) clean says h = copied_says line _ clean says
line_says_redacted before line (Do (event.Resize w k)) clean says h = copied_says line _ clean says
line_says_redacted before line (Do (event.Connect v)) clean says h = copied_says line _ clean says
line_says_redacted before line (Do (event.Cut v)) clean says h = copied_says line _ clean says
line_says_redacted before line (Do (event.Close v)) clean says h = copied_says line _ clean says

lines_say_redacted : (before : List Event) (ls : List (List ℕ)) → AllByRecursion (λ l. has_feed l ≡ false) ls → map session_line (whole_lines (redacted_lines before ls)) ≡ said_redacted before (map session_line ls)
lines_say_redacted before [] h = refl
lines_say_redacted before (l ∷ ls) h =
    let more = with_said before (session_line l) in
    says_then (redacted_as before l (session_line l)) (redacted_lines more ls) (said_for before (session_line l)) (line_says_redacted before l (session_line l) h.0 refl (line_sound l))
    ∙ ap (λ (r : List Line). said_for before (session_line l) ∷ r) (lines_say_redacted more ls h.1)

as_many_said : (before : List Event) (ls : List Line) → length (said_redacted before ls) ≡ length ls
as_many_said before [] = refl
as_many_said before (l ∷ ls) = ap (λ (n : ℕ). suc n) (as_many_said (with_said before l) ls)

-- ---- what the redacted lines say

events_redacted : (before : List Event) (ls : List Line) → events_of (said_redacted before ls) ≡ option_map (redacted_after before) (events_of ls)
unfolding said_for
events_redacted before [] = refl
events_redacted before (Skipped ∷ ls) = events_redacted before ls
events_redacted before (Start c ∷ ls) = refl
events_redacted before (Bad ∷ ls) = refl
events_redacted before (Do e ∷ ls) = ap (option_map (λ es. redacted_event before e ∷ es)) (events_redacted (before ++ e ∷ []) ls) ∙ joined (events_of ls)
  where
    joined : (o : Option (List Event)) → option_map (λ es. redacted_event before e ∷ es) (option_map (redacted_after (before ++ e ∷ [])) o) ≡ option_map (redacted_after before) (option_map (λ es. e ∷ es) o)
    joined None = refl
    joined (Some es) = refl

session_redacted : (ls : List Line) → said_by (said_redacted [] ls) ≡ option_map redacted_session (said_by ls)
unfolding said_for
session_redacted [] = refl
session_redacted (Skipped ∷ ls) = session_redacted ls
session_redacted (Bad ∷ ls) = refl
session_redacted (Do e ∷ ls) = refl
session_redacted (Start c ∷ ls) = ap (begun_with c) (events_redacted [] ls) ∙ begun (events_of ls)
  where
    begun : (o : Option (List Event)) → begun_with c (option_map (redacted_after []) o) ≡ option_map redacted_session (begun_with c o)
    begun None = refl
    begun (Some es) = refl

few_lines : (n : ℕ) (ls : List (List ℕ)) → length (said_redacted [] (map session_line (take n ls))) ≤ n
few_lines n ls =
    let lines_mapped : length (map session_line (take n ls)) ≡ length (take n ls) = length-map (take n ls) session_line in
    omega (arith, as_many_said [] (map session_line (take n ls)), lines_mapped, length-take n ls)

text_is_read : (n : ℕ) (t : List ℕ) → session_of n (redacted_text n t) ≡ option_map redacted_session (session_of n t)
text_is_read n t =
    let ls = take n (whole_lines t) in
    let says : map session_line (whole_lines (redacted_lines [] ls)) ≡ said_redacted [] (map session_line ls) = lines_say_redacted [] ls (take_clean n (whole_lines t) (whole_clean (parts 10 t) (parts_clean t))) in
    ap said_by
    (sym (take-map session_line n (whole_lines (redacted_lines [] ls)))
    ∙ ap (take n) says
    ∙ take_all n (said_redacted [] (map session_line ls)) (few_lines n (whole_lines t)))
    ∙ session_redacted (map session_line ls)

sent_alike : (v : ℕ) (o : Option Session) → sent_in v (option_map redacted_session o) ≡ sent_in v o
sent_alike v None = refl
sent_alike v (Some s) = redacted_is_answered_alike-holds.bytes s.config v s.events

drawn_alike : (o : Option Session) → drawn_in (option_map redacted_session o) ≡ drawn_in o
drawn_alike None = refl
drawn_alike (Some s) = ap pixmap (redacted_is_answered_alike-holds.picture s.config s.events)

pub redacted_is_read-holds : redacted_is_read
redacted_is_read-holds = record {
  session = text_is_read;
  sent = λ n t v. ap (sent_in v) (text_is_read n t) ∙ sent_alike v (session_of n t);
  drawn = λ n t. ap drawn_in (text_is_read n t) ∙ drawn_alike (session_of n t);
}

-- ---- secret bytes

-- of any events behind them these leave the same
abbrev SameLeft : List Event → List Event → Type 0
SameLeft es fs = (behind : List Event) → redacted (es ++ behind) ≡ redacted (fs ++ behind)

last_same : (xs : List Event) (a b : Event) → xs ++ a ∷ [] ≡ xs ++ b ∷ [] → a ≡ b
last_same [] a b h = cc
last_same (x ∷ xs) a b h = last_same xs a b (let rest : xs ++ a ∷ [] ≡ xs ++ b ∷ [] = cc in rest)

event_left : (es fs : List Event) (e : Event) → SameLeft es fs → redacted_event es e ≡ redacted_event fs e
event_left es fs e h =
    let front : redacted es ≡ redacted fs = ap redacted (sym (append-nil es)) ∙ h [] ∙ ap redacted (append-nil fs) in
    last_same (redacted fs) (redacted_event es e) (redacted_event fs e)
    (ap (λ (l : List Event). l ++ redacted_event es e ∷ []) (sym front) ∙ sym (redacted_append es [] (e ∷ [])) ∙ h (e ∷ []) ∙ redacted_append fs [] (e ∷ []))

more_left : (es fs : List Event) (e : Event) → SameLeft es fs → SameLeft (es ++ e ∷ []) (fs ++ e ∷ [])
more_left es fs e h behind = ap redacted (append_assoc es (e ∷ []) behind) ∙ h (e ∷ behind) ∙ ap redacted (sym (append_assoc fs (e ∷ []) behind))

line_left : (es fs : List Event) (line : List ℕ) (said : Line) → SameLeft es fs → redacted_as es line said ≡ redacted_as fs line said
line_left es fs line (Do e) h = ap (line_for line) (event_left es fs e h)
line_left es fs line Skipped h = refl
line_left es fs line (Start c) h = refl
line_left es fs line Bad h = refl

said_left : (es fs : List Event) (said : Line) → SameLeft es fs → SameLeft (with_said es said) (with_said fs said)
said_left es fs (Do e) h = more_left es fs e h
said_left es fs Skipped h = h
said_left es fs (Start c) h = h
said_left es fs Bad h = h

lines_left : (ls : List (List ℕ)) (es fs : List Event) → SameLeft es fs → redacted_lines es ls ≡ redacted_lines fs ls
lines_left [] es fs h = refl
lines_left (l ∷ ls) es fs h =
    ap (λ (r : List ℕ). r ++ redacted_lines (with_said es (session_line l)) ls) (line_left es fs l (session_line l) h)
    ∙ ap (λ (r : List ℕ). redacted_as fs l (session_line l) ++ r) (lines_left ls (with_said es (session_line l)) (with_said fs (session_line l)) (said_left es fs (session_line l) h))

-- the lines before
lines_before : (front back : List (List ℕ)) (es : List Event) → redacted_lines es (front ++ back) ≡ redacted_lines es front ++ redacted_lines (events_behind es front) back
lines_before [] back es = refl
lines_before (l ∷ ls) back es =
    ap (λ (r : List ℕ). redacted_as es l (session_line l) ++ r) (lines_before ls back (with_said es (session_line l)))
    ∙ sym (append_assoc (redacted_as es l (session_line l)) (redacted_lines (with_said es (session_line l)) ls) _)

-- the line itself, and those behind it
lines_by : (back : List (List ℕ)) (es : List Event) (l : List ℕ) (v : ℕ) (piece : List ℕ) → session_line l ≡ Do (event.Hear v piece)
    → redacted_lines es (l ∷ back) ≡ event_line (redacted_event es (event.Hear v piece)) ++ redacted_lines (es ++ event.Hear v piece ∷ []) back
lines_by back es l v piece h = ap (λ q. redacted_as es l q ++ redacted_lines (with_said es q) back) h

secret_left : (es : List Event) (v : ℕ) (g : Conversation) (front back : List ℕ) (b d : ℕ) → conversation_of v es ≡ Some g → is_secret (hear g front) ≡ true
    → SameLeft (es ++ event.Hear v (front ++ b ∷ back) ∷ []) (es ++ event.Hear v (front ++ d ∷ back) ∷ [])
secret_left es v g front back b d is e behind =
    ap redacted (append_assoc es (event.Hear v (front ++ b ∷ back) ∷ []) behind)
    ∙ secrets_leave_no_trace-holds es behind v g front back b d is e
    ∙ ap redacted (sym (append_assoc es (event.Hear v (front ++ d ∷ back) ∷ []) behind))

secret_event : (es : List Event) (v : ℕ) (g : Conversation) (front back : List ℕ) (b d : ℕ) → conversation_of v es ≡ Some g → is_secret (hear g front) ≡ true
    → redacted_event es (event.Hear v (front ++ b ∷ back)) ≡ redacted_event es (event.Hear v (front ++ d ∷ back))
secret_event es v g front back b d is e =
    last_same (redacted es) _ _
    (sym (redacted_append es [] (event.Hear v (front ++ b ∷ back) ∷ []))
    ∙ secrets_leave_no_trace-holds es [] v g front back b d is e
    ∙ redacted_append es [] (event.Hear v (front ++ d ∷ back) ∷ []))

pub secrets_are_not_written-holds : secrets_are_not_written
secrets_are_not_written-holds n t u front back l m lt lu h =
    let es = events_behind [] front in
    ap (redacted_lines []) lt
    ∙ lines_before front (l ∷ back) []
    ∙ ap (λ (r : List ℕ). redacted_lines [] front ++ r)
    (lines_by back es l h.viewer (h.front ++ h.byte ∷ h.back) h.one_says
    ∙ ap (λ (e : Event). event_line e ++ redacted_lines (es ++ event.Hear h.viewer (h.front ++ h.byte ∷ h.back) ∷ []) back) (secret_event es h.viewer h.heard h.front h.back h.byte h.byte_of_other h.is_there h.is_secret)
    ∙ ap (λ (r : List ℕ). event_line (redacted_event es (event.Hear h.viewer (h.front ++ h.byte_of_other ∷ h.back))) ++ r) (lines_left back _ _ (secret_left es h.viewer h.heard h.front h.back h.byte h.byte_of_other h.is_there h.is_secret))
    ∙ sym (lines_by back es m h.viewer (h.front ++ h.byte_of_other ∷ h.back) h.other_says))
    ∙ sym (lines_before front (m ∷ back) [])
    ∙ sym (ap (redacted_lines []) lu)
