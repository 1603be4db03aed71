-- What is known of a WebSocket by what is known of the stream below.
use Rattle.std.specs.Prelude.{◌≡◌, ℕ, ◌<◌, Bool, ◌&&◌, ◌||◌, not, ◌==◌, if◌then◌else◌, is_some, List, [], ◌++◌, length, take, Option, None, Some, unwrap_or, Result, Ok, Err, option_map}
use Rattle.std.specs.Io.KnownBytes.{Consumes, Keeps, IsAtEnd}
use Rattle.web_stream.specs.declared.fault.WebFault.{WebFault}
use Rattle.web_stream.specs.declared.inward.Over.{Over}
use Rattle.web_stream.specs.declared.inward.Over.TheVariants.{Closed, Fault}
use Rattle.web_stream.specs.declared.stream.WebStream.{WebStream}
use Rattle.web_stream.specs.Reading.{Reading, after, payloads}
use Rattle.web_stream.specs.Standing.{reading_of}
use Rattle.web_stream.specs.Writing.{known_payloads}

abbrev pub stream_in : {S : Type 0} → WebStream S → S
stream_in w = w.stream

abbrev pub reading_in : {S : Type 0} → WebStream S → Reading
reading_in w = reading_of w.inward

-- the payloads of the binary frames that are still to be read
abbrev pub remaining_in : {S : Type 0} → (S → Option (List ℕ)) → WebStream S → Option (List ℕ)
remaining_in remaining w = option_map (payloads (reading_of w.inward)) (remaining w.stream)

-- the payloads of the data frames that were written
abbrev pub contents_in : {S : Type 0} → (S → Option (List ℕ)) → WebStream S → Option (List ℕ)
contents_in contents w = known_payloads w.begun w.outward.own.items w.outward.owed (contents w.stream)

abbrev pub fault_of : Option Over → Option WebFault
fault_of (Some (Fault fault)) = Some fault
fault_of (Some Closed) = None
fault_of None = None

abbrev pub fault_in : {S : Type 0} → WebStream S → Option WebFault
fault_in w = fault_of w.inward.over

-- a control frame can be written: no data frame is on its way, and an answer waits or is on its way
abbrev pub owes_in : {S : Type 0} → WebStream S → Bool
owes_in w = w.outward.owed == 0 && (is_some w.inward.answer || not (length w.outward.own.items == 0))

-- what is to be written that is no payload: what is left of a control frame, and the answer that waits; nothing within a data frame
abbrev pub own_bytes : {S : Type 0} → WebStream S → List ℕ
own_bytes w = if w.outward.owed == 0 then w.outward.own.items ++ unwrap_or (reading_of w.inward).answer [] else []

-- the last read of the stream below filled its room, or the frames are over
abbrev pub has_more_in : {S : Type 0} → WebStream S → Bool
has_more_in w = w.was_full || is_some w.inward.over

-- a read of the stream below gave so much payload, or found its end where there was room for a byte
abbrev pub TakesPiece : {E : Type 0} → Option (List ℕ) → Option (List ℕ) → Result (Option ℕ) E → List ℕ → Type 0
TakesPiece old new (Ok None) room = Consumes old new [] × (0 < length room → IsAtEnd new)
TakesPiece old new (Ok (Some n)) room = Consumes old new (take n room)
TakesPiece old new (Err _) room = Keeps old new

-- some bytes of the stream below were read, and the frames stand behind these
abbrev pub ReadsOn : Option (List ℕ) → Option (List ℕ) → Reading → Reading → Type 0
ReadsOn old new before now = (bs : List ℕ) × Consumes old new bs × (now ≡ after before bs)
