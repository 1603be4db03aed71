-- A redacted session has as many events, and bytes stay bytes.
use Rattle.std.proofs.Common.{◌≡◌, ℕ, suc, Bool, true, false, cond, List, [], ◌∷◌, ◌++◌, length, replicate, Option, Some, None, refl, ap}
use Rattle.std.specs.List.{AllByRecursion}
use Rattle.messages.specs.Reading.{Conversation, hear_byte}
use Rattle.scene.specs.declared.Event.{Event}
use Rattle.scene.specs.declared.Event.TheVariants as event
use Rattle.redaction.specs.Redaction.{is_secret, redacted_byte, redacted_from}
use Rattle.redaction.specs.Sessions.{conversation_of, redacted_piece, redacted_event, redacted_after}

-- what holds of zero and of each byte of a piece holds of each that is left
byte_sound : (P : ℕ → Type 0) (h : Conversation) (b : ℕ) → P 0 → P b → P (redacted_byte h b)
byte_sound P h b zero here = go (is_secret h)
  where
    go : (secret : Bool) → P (cond secret 0 b)
    go true = zero
    go false = here

bytes_sound : (P : ℕ → Type 0) → P 0 → (h : Conversation) (bytes : List ℕ) → AllByRecursion P bytes → AllByRecursion P (redacted_from h bytes)
bytes_sound P zero h [] all = tt
bytes_sound P zero h (b ∷ bytes) all = (byte_sound P h b zero all.0, bytes_sound P zero (hear_byte h b) bytes all.1)

zeros_sound : (P : ℕ → Type 0) → P 0 → (bytes : List ℕ) → AllByRecursion P (replicate (length bytes) 0)
zeros_sound P zero [] = tt
zeros_sound P zero (b ∷ bytes) = (zero, zeros_sound P zero bytes)

pub piece_sound : (P : ℕ → Type 0) → P 0 → (o : Option Conversation) (piece : List ℕ) → AllByRecursion P piece → AllByRecursion P (redacted_piece o piece)
piece_sound P zero None piece all = zeros_sound P zero piece
piece_sound P zero (Some h) piece all = bytes_sound P zero h piece all

-- what holds of each event, and of a piece that is redacted, holds of each redacted event
event_sound : (S : Event → Type 0) → ((n : ℕ) (o : Option Conversation) (piece : List ℕ) → S (event.Hear n piece) → S (event.Hear n (redacted_piece o piece)))
    → (before : List Event) (e : Event) → S e → S (redacted_event before e)
event_sound S piece before (event.Hear n bytes) here = piece n (conversation_of n before) bytes here
event_sound S piece before (event.Write r l) here = here
event_sound S piece before (event.Paint r l) here = here
event_sound S piece before (event.Mark rs) here = here
event_sound S piece before (event.ScheduleCopy rs dx dy) here = here
event_sound S piece before (event.DoCopy rs dx dy) here = here
event_sound S piece before event.Bell here = here
event_sound S piece before (event.CutText x) here = here
event_sound S piece before (event.Resize w h) here = here
event_sound S piece before (event.Connect n) here = here
event_sound S piece before (event.Cut n) here = here
event_sound S piece before (event.Close n) here = here

pub events_sound : (S : Event → Type 0) → ((n : ℕ) (o : Option Conversation) (piece : List ℕ) → S (event.Hear n piece) → S (event.Hear n (redacted_piece o piece)))
    → (es before : List Event) → AllByRecursion S es → AllByRecursion S (redacted_after before es)
events_sound S piece [] before all = tt
events_sound S piece (e ∷ es) before all = (event_sound S piece before e all.0, events_sound S piece es (before ++ e ∷ []) all.1)

pub as_many : (es before : List Event) → length (redacted_after before es) ≡ length es
as_many [] before = refl
as_many (e ∷ es) before = ap (λ (n : ℕ). suc n) (as_many es (before ++ e ∷ []))
