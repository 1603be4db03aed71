-- Which of a viewer's bytes are secret, and its bytes with zeros in their place.
use Rattle.std.specs.Prelude.{ℕ, Bool, true, false, ◌||◌, ◌&&◌, ◌==◌, nat_le, if◌then◌else◌, List, [], ◌∷◌, length}
use Rattle.messages.specs.declared.Phase.{Phase}
use Rattle.messages.specs.declared.Phase.TheVariants as phase
use Rattle.messages.specs.Grammar.{waiting, faulty}
use Rattle.messages.specs.Reading.{Conversation, hear_byte}

-- whether the next byte of a message is secret, by its type and by the bytes behind it: of a key (RFC 6143, 7.5.4) and of a
-- pointer (7.5.5) each byte behind the type is, and of a text (7.5.6) each byte behind its length
abbrev pub is_secret_behind : ℕ → List ℕ → Bool
is_secret_behind kind bytes = (kind == 4) || (kind == 5) || ((kind == 6) && nat_le 7 (length bytes))

-- the same, by where the conversation stands and by the bytes of the unfinished message
abbrev pub is_secret_at : Phase → List ℕ → Bool
is_secret_at (phase.Open v) (kind ∷ bytes) = is_secret_behind kind bytes
is_secret_at _ _ = false

-- the same, by what was heard. Behind a fault nothing is heard, and every byte counts as secret.
abbrev pub is_secret : Conversation → Bool
is_secret h = elim h.end [ waiting ↦ is_secret_at h.phase h.unfinished | faulty k ↦ true ]

-- a byte behind what was heard
abbrev pub redacted_byte : Conversation → ℕ → ℕ
redacted_byte h byte = if is_secret h then 0 else byte

-- bytes behind what was heard
abbrev pub redacted_from : Conversation → List ℕ → List ℕ
redacted_from h [] = []
redacted_from h (byte ∷ bytes) = redacted_byte h byte ∷ redacted_from (hear_byte h byte) bytes
