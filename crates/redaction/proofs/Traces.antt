-- A redacted session doesn't tell its secret bytes.
use Rattle.std.proofs.Common.{◌≡◌, ℕ, Bool, true, false, cond, eqb, List, [], ◌∷◌, ◌++◌, Option, Some, None, refl, sym, ap, ◌∙◌, append_assoc}
use Rattle.std.specs.Prelude.{option_map, unwrap_or}
use Rattle.std.proofs.lemmas.Bool.{eqb-true}
use Rattle.std.proofs.lemmas.List.{append-nil}
use Rattle.std.proofs.lemmas.List.Sums.{fold-append}
use Rattle.messages.specs.Reading.{Conversation, nothing_heard, hear_byte, hear}
use Rattle.scene.specs.declared.Event.{Event}
use Rattle.scene.specs.declared.Event.TheVariants as event
use Rattle.redaction.specs.Redaction.{is_secret, redacted_from}
use Rattle.redaction.specs.Sessions.{heard_next, conversation_of, redacted_piece, redacted_event, redacted_after, redacted}
use Rattle.redaction.specs.Claims.{secrets_leave_no_trace}
use Rattle.redaction.proofs.Alike.{hidden, redacted_more, same_redacted, same_heard, same_behind_secret, same_secret_bytes}

-- what was heard, without what is secret
abbrev trace_of : Option Conversation → Option Conversation
trace_of o = option_map hidden o

piece_same : (o p : Option Conversation) (piece : List ℕ) → trace_of o ≡ trace_of p → redacted_piece o piece ≡ redacted_piece p piece
piece_same None None piece e = refl
piece_same None (Some g) piece e = absurd (cc)
piece_same (Some h) None piece e = absurd (cc)
piece_same (Some h) (Some g) piece e = let same : hidden h ≡ hidden g = cc in same_redacted h g piece same

connect_same : (o p : Option Conversation) → trace_of o ≡ trace_of p → trace_of (Some (unwrap_or o nothing_heard)) ≡ trace_of (Some (unwrap_or p nothing_heard))
connect_same None None e = refl
connect_same None (Some g) e = absurd (cc)
connect_same (Some h) None e = absurd (cc)
connect_same (Some h) (Some g) e = e

hear_same : (o p : Option Conversation) (piece : List ℕ) → trace_of o ≡ trace_of p → trace_of (option_map (λ h. hear h piece) o) ≡ trace_of (option_map (λ h. hear h piece) p)
hear_same None None piece e = refl
hear_same None (Some g) piece e = absurd (cc)
hear_same (Some h) None piece e = absurd (cc)
hear_same (Some h) (Some g) piece e = let same : hidden h ≡ hidden g = cc in ap (λ (k : Conversation). Some k) (same_heard h g piece same)

chosen : (b : Bool) (x y o p : Option Conversation) → trace_of x ≡ trace_of y → trace_of o ≡ trace_of p → trace_of (cond b x o) ≡ trace_of (cond b y p)
chosen true x y o p e f = e
chosen false x y o p e f = f

next_same : (n : ℕ) (o p : Option Conversation) (e : Event) → trace_of o ≡ trace_of p → trace_of (heard_next n o e) ≡ trace_of (heard_next n p e)
next_same n o p (event.Connect k) t = chosen (eqb k n) _ _ o p (connect_same o p t) t
next_same n o p (event.Hear k piece) t = chosen (eqb k n) _ _ o p (hear_same o p piece t) t
next_same n o p (event.Close k) t = chosen (eqb k n) None None o p refl t
next_same n o p (event.Cut k) t = t
next_same n o p (event.Write r l) t = t
next_same n o p (event.Paint r l) t = t
next_same n o p (event.Mark rs) t = t
next_same n o p (event.ScheduleCopy rs dx dy) t = t
next_same n o p (event.DoCopy rs dx dy) t = t
next_same n o p event.Bell t = t
next_same n o p (event.CutText x) t = t
next_same n o p (event.Resize w h) t = t

-- events that leave the same of each viewer
abbrev SameTraces : List Event → List Event → Type 0
SameTraces es fs = (n : ℕ) → trace_of (conversation_of n es) ≡ trace_of (conversation_of n fs)

told : (n : ℕ) (es : List Event) (e : Event) → conversation_of n (es ++ e ∷ []) ≡ heard_next n (conversation_of n es) e
told n es e = fold-append (heard_next n) None es (e ∷ [])

more_same : (es fs : List Event) (e : Event) → SameTraces es fs → SameTraces (es ++ e ∷ []) (fs ++ e ∷ [])
more_same es fs e t n = ap trace_of (told n es e) ∙ next_same n (conversation_of n es) (conversation_of n fs) e (t n) ∙ ap trace_of (sym (told n fs e))

event_same : (es fs : List Event) (e : Event) → SameTraces es fs → redacted_event es e ≡ redacted_event fs e
event_same es fs (event.Hear k piece) t = ap (λ (l : List ℕ). event.Hear k l) (piece_same (conversation_of k es) (conversation_of k fs) piece (t k))
event_same es fs (event.Connect k) t = refl
event_same es fs (event.Close k) t = refl
event_same es fs (event.Cut k) t = refl
event_same es fs (event.Write r l) t = refl
event_same es fs (event.Paint r l) t = refl
event_same es fs (event.Mark rs) t = refl
event_same es fs (event.ScheduleCopy rs dx dy) t = refl
event_same es fs (event.DoCopy rs dx dy) t = refl
event_same es fs event.Bell t = refl
event_same es fs (event.CutText x) t = refl
event_same es fs (event.Resize w h) t = refl

after_same : (behind es fs : List Event) → SameTraces es fs → redacted_after es behind ≡ redacted_after fs behind
after_same [] es fs t = refl
after_same (e ∷ behind) es fs t =
    ap (λ (d : Event). d ∷ redacted_after (es ++ e ∷ []) behind) (event_same es fs e t)
    ∙ ap (λ (l : List Event). redacted_event fs e ∷ l) (after_same behind (es ++ e ∷ []) (fs ++ e ∷ []) (more_same es fs e t))

pub redacted_append : (es before fs : List Event) → redacted_after before (es ++ fs) ≡ redacted_after before es ++ redacted_after (before ++ es) fs
redacted_append [] before fs = ap (λ (l : List Event). redacted_after l fs) (sym (append-nil before))
redacted_append (e ∷ es) before fs =
    ap (λ (l : List Event). redacted_event before e ∷ l)
    (redacted_append es (before ++ e ∷ []) fs ∙ ap (λ (l : List Event). redacted_after (before ++ e ∷ []) es ++ redacted_after l fs) (append_assoc before (e ∷ []) es))

-- a piece with either byte
heard_same : (h : Conversation) (front back : List ℕ) (b d : ℕ) → is_secret (hear h front) ≡ true → hidden (hear h (front ++ b ∷ back)) ≡ hidden (hear h (front ++ d ∷ back))
heard_same h front back b d e =
    ap hidden (fold-append hear_byte h front (b ∷ back))
    ∙ same_heard (hear_byte (hear h front) b) (hear_byte (hear h front) d) back (same_behind_secret (hear h front) b d e)
    ∙ ap hidden (sym (fold-append hear_byte h front (d ∷ back)))

bytes_same : (h : Conversation) (front back : List ℕ) (b d : ℕ) → is_secret (hear h front) ≡ true → redacted_from h (front ++ b ∷ back) ≡ redacted_from h (front ++ d ∷ back)
bytes_same h front back b d e =
    redacted_more h front (b ∷ back) ∙ ap (λ (l : List ℕ). redacted_from h front ++ l) (same_secret_bytes (hear h front) b d back e) ∙ sym (redacted_more h front (d ∷ back))

traces_same : (before : List Event) (v : ℕ) (h : Conversation) (front back : List ℕ) (b d : ℕ) → conversation_of v before ≡ Some h → is_secret (hear h front) ≡ true
    → SameTraces (before ++ event.Hear v (front ++ b ∷ back) ∷ []) (before ++ event.Hear v (front ++ d ∷ back) ∷ [])
traces_same before v h front back b d is e n =
    ap trace_of (told n before (event.Hear v (front ++ b ∷ back))) ∙ go (eqb v n) refl ∙ ap trace_of (sym (told n before (event.Hear v (front ++ d ∷ back))))
  where
    go : (c : Bool) → eqb v n ≡ c → trace_of (cond c (option_map (λ g. hear g (front ++ b ∷ back)) (conversation_of n before)) (conversation_of n before))
        ≡ trace_of (cond c (option_map (λ g. hear g (front ++ d ∷ back)) (conversation_of n before)) (conversation_of n before))
    go true same =
        let here : conversation_of n before ≡ Some h = ap (λ (k : ℕ). conversation_of k before) (sym (eqb-true v n same)) ∙ is in
        rw here (ap (λ (k : Conversation). Some k) (heard_same h front back b d e))
    go false same = refl

pub secrets_leave_no_trace-holds : secrets_leave_no_trace
secrets_leave_no_trace-holds before behind v h front back b d is e =
    redacted_append before [] (event.Hear v (front ++ b ∷ back) ∷ behind)
    ∙ ap (λ (l : List Event). redacted before ++ l)
    (ap (λ (o : Option Conversation). event.Hear v (redacted_piece o (front ++ b ∷ back)) ∷ redacted_after (before ++ event.Hear v (front ++ b ∷ back) ∷ []) behind) is
    ∙ ap (λ (l : List ℕ). event.Hear v l ∷ redacted_after (before ++ event.Hear v (front ++ b ∷ back) ∷ []) behind) (bytes_same h front back b d e)
    ∙ ap (λ (l : List Event). event.Hear v (redacted_from h (front ++ d ∷ back)) ∷ l) (after_same behind _ _ (traces_same before v h front back b d is e))
    ∙ ap (λ (o : Option Conversation). event.Hear v (redacted_piece o (front ++ d ∷ back)) ∷ redacted_after (before ++ event.Hear v (front ++ d ∷ back) ∷ []) behind) (sym is))
    ∙ sym (redacted_append before [] (event.Hear v (front ++ d ∷ back) ∷ behind))
