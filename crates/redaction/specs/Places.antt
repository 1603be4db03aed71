-- What is kept of a viewer's bytes, to know which of the next ones are secret (RFC 6143, 7.1 to 7.5).
use Rattle.std.specs.Prelude.{⊤, ℕ, ◌*◌, ◌-◌, ◌<◌, Bool, true, false, ◌||◌, ◌&&◌, ◌==◌, nat_le, nat_lt, if◌then◌else◌, List, [], ◌∷◌, ◌++◌, length, slice_index, fold}
use Rattle.messages.specs.declared.Phase.{Phase}
use Rattle.messages.specs.declared.Phase.TheVariants as phase
use Rattle.messages.specs.declared.heads.Head.{Head}
use Rattle.messages.specs.declared.heads.Head.TheVariants as head
use Rattle.messages.specs.Grammar.{after, End, waiting, faulty}
use Rattle.messages.specs.Reading.{Conversation, message_length}
use Rattle.messages.specs.Steps.{head_length, head_of}

-- the bytes so far of a message's front, which is all of it, or goes up to its count or its length; how many bytes of a list of
-- encodings, or of a text, are to come; or that there is a fault
pub data Spot : Type 0 where
  front : Phase → List ℕ → Spot
  list : Phase → ℕ → Spot
  text : Phase → ℕ → Spot
  over : Spot

-- what is kept of an unfinished message: behind the count of a list and behind the length of a text, how many bytes are left
abbrev pub message_spot : Phase → List ℕ → Spot
message_spot p bytes =
    let left = message_length bytes - length bytes in
    if (slice_index bytes 0 == 2) && nat_le 4 (length bytes) then list p left
    else (if (slice_index bytes 0 == 6) && nat_le 8 (length bytes) then text p left
    else front p bytes)

abbrev pub spot_by : Phase → End → List ℕ → Spot
spot_by p (faulty k) bytes = over
spot_by (phase.Open v) waiting bytes = message_spot (phase.Open v) bytes
spot_by p waiting bytes = front p bytes

-- what is kept of what was heard
abbrev pub spot_of : Conversation → Spot
spot_of h = spot_by h.phase h.end h.unfinished

-- whether the next byte is secret: a front is that of a key or of a pointer
abbrev pub is_secret_front : Phase → List ℕ → Bool
is_secret_front (phase.Open v) (kind ∷ bytes) = (kind == 4) || (kind == 5)
is_secret_front _ _ = false

abbrev pub is_secret_spot : Spot → Bool
is_secret_spot (front p bytes) = is_secret_front p bytes
is_secret_spot (list p left) = false
is_secret_spot (text p left) = true
is_secret_spot over = true

-- what is kept behind a whole front, by what it says
abbrev pub head_spot : Phase → Head → Spot
head_spot p (head.Item i) = front (after p i) []
head_spot p (head.Fault k) = over
head_spot p (head.Encodings count) = list p (4 * count)
head_spot p (head.Text long) = text p long

-- what is kept of a front's bytes, which may be whole
abbrev pub front_spot : Phase → List ℕ → Spot
front_spot p bytes =
    if nat_lt (length bytes) (head_length p (slice_index bytes 0)) then front p bytes
    else head_spot p (head_of p bytes)

-- a byte less is to come, of so many; behind the last one the next message begins
abbrev pub one_less : Phase → (ℕ → Spot) → ℕ → Spot
one_less p rest left = if nat_le left 1 then front p [] else rest (left - 1)

-- a byte more
abbrev pub spot_after : Spot → ℕ → Spot
spot_after (front p bytes) byte = front_spot p (bytes ++ byte ∷ [])
spot_after (list p left) byte = one_less p (list p) left
spot_after (text p left) byte = one_less p (text p) left
spot_after over byte = over

-- bytes more
abbrev pub spot_behind : Spot → List ℕ → Spot
spot_behind s bytes = fold spot_after s bytes

-- bytes, with zeros in the place of those that are secret
abbrev pub hidden_by : Spot → List ℕ → List ℕ
hidden_by s [] = []
hidden_by s (byte ∷ bytes) = (if is_secret_spot s then 0 else byte) ∷ hidden_by (spot_after s byte) bytes

-- a front lacks a byte
abbrev pub LacksMore : Spot → Type 0
LacksMore (front p bytes) = length bytes < head_length p (slice_index bytes 0)
LacksMore _ = ⊤
