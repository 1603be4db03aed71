-- What the threads of a viewer did with its reader and its writer, and what they leave.
use Rattle.std.specs.Prelude.{◌≡◌, ◌≢◌, ℕ, ◌<◌, ◌≤◌, ◌⊎◌, List, [], ◌∷◌, ◌++◌, length, All, Option, Some, None, Result, MatchResult}
use Rattle.std.specs.Io.KnownBytes.{Appends, Consumes, IsAtEnd}
use Rattle.std.specs.List.{concat}
use Rattle.messages.specs.declared.Fault.{Fault as Met}
use Rattle.screen.specs.declared.Answer.{Answer}
use Rattle.receipts.specs.declared.Receipt.{Receipt}
use Rattle.receipts.specs.declared.Ended.{Ended}
use Rattle.receipts.specs.declared.Ended.TheVariants.{EndOfInput, Fault, ReadFailed, WriteFailed, Memory, Gate, Closed, Stopped}
use Rattle.update_sender.specs.declared.opening.Opened.{Opened}
use Rattle.update_sender.specs.declared.opening.Opened.TheVariants.{Ready, Over}
use Rattle.update_sender.specs.Ends.{all_of}
use Rattle.update_sender.specs.Ends.{Listening, Speaking, Greeting, counted, listened, without_waiting, has_cut, has_sent}

-- Reading. The readers' and the writers' bytes are known, or nothing is said of them.

-- a piece, as a reader gives it
abbrev pub IsPiece : List ℕ → Type 0
IsPiece piece = (0 < length piece) × (length piece ≤ 4096)

-- a listener that heard these pieces, one after the other
abbrev pub after_pieces : List (List ℕ) → Listening → Listening
after_pieces [] l = l
after_pieces (piece ∷ pieces) l = after_pieces pieces (listened piece l)

-- what was read is what was heard, piece by piece in order, and then what stayed unheard
pub record Hears (left remains : Option (List ℕ)) (before after : Listening) (unheard : List ℕ) : Type 0 where
  pub pieces : List (List ℕ)
  pub each : All IsPiece pieces
  pub heard : without_waiting after ≡ after_pieces pieces (without_waiting before)
  pub read : Consumes left remains (concat pieces ++ unheard)

-- How reading ends. The last piece that was read stays unheard where memory was refused for it, or its viewer was closed, and nothing does elsewhere.
abbrev pub ReadingEnds : Ended → Option (List ℕ) → List ℕ → Type 0
ReadingEnds EndOfInput remains unheard = (unheard ≡ []) × IsAtEnd remains
ReadingEnds ReadFailed remains unheard = unheard ≡ []
ReadingEnds (Fault fault) remains unheard = unheard ≡ []
ReadingEnds Memory remains unheard = IsPiece unheard
ReadingEnds Closed remains unheard = IsPiece unheard
ReadingEnds _ remains unheard = ⊥

-- one piece was read and heard
abbrev pub HearsPiece : Option (List ℕ) → Option (List ℕ) → Listening → Listening → Type 0
HearsPiece left remains before after = (piece : List ℕ) × IsPiece piece × Consumes left remains piece × (after ≡ listened piece before)

-- none was heard, and reading ends
abbrev pub HearsNoMore : Option (List ℕ) → Option (List ℕ) → Ended → Type 0
HearsNoMore left remains ended = (unheard : List ℕ) × Consumes left remains unheard × ReadingEnds ended remains unheard

-- Writing.

-- the first bytes of these
abbrev pub IsBegun : List ℕ → List ℕ → Type 0
IsBegun written due = (left : List ℕ) × (written ++ left ≡ due)

-- and not all of them
abbrev pub IsCutShort : List ℕ → List ℕ → Type 0
IsCutShort written due = (left : List ℕ) × (left ≢ []) × (written ++ left ≡ due)

-- how much was written of what was due, where that broke off
abbrev pub WritingEnds : Ended → List ℕ → List ℕ → Type 0
WritingEnds Memory written due = IsBegun written due
WritingEnds WriteFailed written due = IsCutShort written due
WritingEnds _ written due = ⊥

-- all that was due was written, or the writing broke off
abbrev pub Writes : {X : Type 0} → Result X Ended → List ℕ → List ℕ → Type 0
Writes result written due = MatchResult result (λ _. written ≡ due) (λ e. WritingEnds e written due)

-- these were written, and added to what is kept of what was
abbrev pub Sends : Option (List ℕ) → Option (List ℕ) → Speaking → Speaking → List ℕ → Type 0
Sends wrote written before after added = Appends wrote written added × (after ≡ has_sent added before)

-- an update more was cut, and these of its bytes were written
abbrev pub after_update : List ℕ → Speaking → Speaking
after_update written s = has_sent written (has_cut s)

-- updates were cut, one after the other, and each was written whole
abbrev pub after_updates : List (List ℕ) → Speaking → Speaking
after_updates [] s = s
after_updates (update ∷ updates) s = after_updates updates (after_update update s)

-- the last update that was cut, where its sender broke off in it, and what was written of it
pub record BrokenOff : Type 0 where
  pub update : List ℕ
  pub written : List ℕ

abbrev pub bytes_of : Option BrokenOff → List ℕ
bytes_of None = []
bytes_of (Some last) = last.written

abbrev pub after_last : Option BrokenOff → Speaking → Speaking
after_last None s = s
after_last (Some last) s = after_update last.written s

-- How a sender ends. A refusing gate and a failed write break off an update, want of memory may, and nothing else does.
abbrev pub SendingEnds : Ended → Option BrokenOff → Type 0
SendingEnds WriteFailed (Some last) = IsCutShort last.written last.update
SendingEnds Gate (Some last) = last.written ≡ []
SendingEnds Memory (Some last) = IsBegun last.written last.update
SendingEnds Memory None = Unit {0}
SendingEnds Closed None = Unit {0}
SendingEnds (Fault fault) None = Unit {0}
SendingEnds Stopped None = Unit {0}
SendingEnds _ last = ⊥

-- why nothing is cut any more
abbrev pub CuttingEnds : Ended → Type 0
CuttingEnds ended = SendingEnds ended None

-- An update that was written whole has bytes. Its gate let it be encoded and written, and was told how many bytes it had.
abbrev pub IsSent : Type 0 → Type 0 → (ℕ → Type 0) → List ℕ → Type 0
IsSent lets_encode lets_write was_told update = (update ≢ []) × lets_encode × lets_write × was_told (counted (length update))

-- where something was written of the update in which the sender broke off, its gate let it be written
abbrev pub IsLet : Type 0 → Option BrokenOff → Type 0
IsLet lets_write last = bytes_of last ≢ [] → lets_write

-- an update was cut, and written whole
abbrev pub SendsUpdate : (List ℕ → Type 0) → Option (List ℕ) → Option (List ℕ) → Speaking → Speaking → Type 0
SendsUpdate sent wrote written before after = (update : List ℕ) × sent update × Appends wrote written update × (after ≡ after_update update before)

-- nothing was cut any more, or an update in which the sender broke off
abbrev pub SendsNoMore : Type 0 → Option (List ℕ) → Option (List ℕ) → Speaking → Speaking → Ended → Type 0
SendsNoMore lets_write wrote written before after ended =
    (last : Option BrokenOff) × Appends wrote written (bytes_of last) × (after ≡ after_last last before) × SendingEnds ended last × IsLet lets_write last

-- updates were cut, and each was written whole
pub record SendsUpdates (sent : List ℕ → Type 0) (wrote written : Option (List ℕ)) (before after : Speaking) : Type 0 where
  pub updates : List (List ℕ)
  pub each : All sent updates
  pub cut : after ≡ after_updates updates before
  pub bytes : Appends wrote written (concat updates)

-- What a sender did until it ended: it cut updates and wrote each whole, and perhaps one more, in which it broke off. It wrote nothing else.
pub record CutsAndSends (sent : List ℕ → Type 0) (lets_write : Type 0) (wrote written : Option (List ℕ)) (before after : Speaking) (ended : Ended) : Type 0 where
  pub updates : List (List ℕ)
  pub each : All sent updates
  pub last : Option BrokenOff
  pub cut : after ≡ after_last last (after_updates updates before)
  pub bytes : Appends wrote written (concat updates ++ bytes_of last)
  pub ends : SendingEnds ended last
  pub passed : IsLet lets_write last

-- The opening.

-- it reads, and writes what was answered: where that is refused for memory or fails, all that was read is heard
abbrev pub OpeningEnds : Ended → Option (List ℕ) → List ℕ → Type 0
OpeningEnds ended remains unheard = ReadingEnds ended remains unheard ⊎ (((ended ≡ Memory) ⊎ (ended ≡ WriteFailed)) × (unheard ≡ []))

-- it met the fault that stands in an answer
abbrev pub HasFault : Ended → Answer → Type 0
HasFault ended answer = (fault : Met) × (answer.closed ≡ Some fault) × (ended ≡ Fault fault)

-- an answer is written whole, and its viewer met no fault or the one that stands in it; or its writing breaks off
abbrev pub Replies : {X : Type 0} → Result X Ended → List ℕ → Answer → Type 0
Replies result written answer =
    MatchResult result (λ _. (written ≡ answer.bytes) × (answer.closed ≡ None)) (λ e. ((written ≡ answer.bytes) × HasFault e answer) ⊎ WritingEnds e written answer.bytes)

-- what an opening wrote until it ended: the version, and then what was answered, all of it or the first bytes where its writing broke off
abbrev pub GreetingEnds : Ended → List ℕ → List ℕ → Type 0
GreetingEnds ended written version = (answers : List ℕ) × ((written ≡ version ++ answers) ⊎ WritingEnds ended written (version ++ answers))

-- a viewer's receipt, of its two ends
abbrev pub receipt_of : Listening → Speaking → Ended → Receipt
receipt_of l s ended = record { viewer = l.viewer; pieces = l.pieces; cuts = s.cuts; heard = all_of l.heard; sent = all_of s.sent; ended = ended }

-- an opening that broke off
abbrev pub IsOver : Option (List ℕ) → Option (List ℕ) → Option (List ℕ) → Option (List ℕ) → Listening → Speaking → List ℕ → Receipt → Type 0
IsOver left remains wrote written listener speaker version r =
    (l : Listening) × (s : Speaking) × (unheard : List ℕ) × (added : List ℕ) × Hears left remains listener l unheard × Sends wrote written speaker s added
    × GreetingEnds r.ended added version × OpeningEnds r.ended remains unheard × (r ≡ receipt_of l s r.ended)

abbrev pub Opens : Option (List ℕ) → Option (List ℕ) → Option (List ℕ) → Option (List ℕ) → Greeting → Opened → Type 0
Opens left remains wrote written line (Ready listener speaker) =
    (answers : List ℕ) × Hears left remains line.listener listener [] × Sends wrote written line.speaker speaker (line.version ++ answers)
Opens left remains wrote written line (Over r parting) = IsOver left remains wrote written line.listener line.speaker line.version r

-- an opening's two ends, or its receipt and how it left, are one viewer's
abbrev pub IsOf : ℕ → Opened → Type 0
IsOf v (Ready listener speaker) = (listener.viewer ≡ v) × (speaker.viewer ≡ v)
IsOf v (Over r parting) = (r.viewer ≡ v) × (parting.viewer ≡ v)
