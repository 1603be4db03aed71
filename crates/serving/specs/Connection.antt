-- What was read of a viewer and what was written to it, from its greeting to its receipt.
use Rattle.std.specs.Prelude.{◌≡◌, ℕ, Bool, List, Option}
use Rattle.receipts.specs.declared.Ended.{Ended}
use Rattle.receipts.specs.declared.Receipt.{Receipt}
use Rattle.update_sender.specs.declared.opening.Opened.{Opened}
use Rattle.update_sender.specs.declared.opening.Opened.TheVariants.{Ready, Over}
use Rattle.update_sender.specs.declared.reader.ReadHalf.{ReadHalf}
use Rattle.update_sender.specs.declared.sender.WriteHalf.{WriteHalf}
use Rattle.update_sender.specs.Ends.{Listening, Speaking, Greeting, all_of}
use Rattle.update_sender.specs.Serving.{Hears, ReadingEnds, IsSent, CutsAndSends, Opens, receipt_of}
use Rattle.serving.specs.Reasons.{ended_late}

-- what was read was heard, until reading ended for this reason
abbrev pub HearsUntil : Ended → Option (List ℕ) → Option (List ℕ) → Listening → Listening → Type 0
HearsUntil ended left remains before after = (unheard : List ℕ) × Hears left remains before after unheard × ReadingEnds ended remains unheard

-- updates were cut and written, until sending ended for this reason; an open gate let each pass
abbrev pub SendsUntil : Ended → Option (List ℕ) → Option (List ℕ) → Speaking → Speaking → Type 0
SendsUntil ended wrote written before after = CutsAndSends (IsSent (Unit {0}) (Unit {0}) (λ count. Unit {0})) (Unit {0}) wrote written before after ended

-- a reader's half tells what was heard
abbrev pub IsReadHalf : Option (List ℕ) → Option (List ℕ) → Listening → ReadHalf → Type 0
IsReadHalf left remains listener half =
    (l : Listening) × HearsUntil half.ended left remains listener l × (half.viewer ≡ listener.viewer) × (half.pieces ≡ l.pieces) × (half.heard ≡ all_of l.heard)

-- a sender's half tells what was cut and written
abbrev pub IsWriteHalf : Option (List ℕ) → Option (List ℕ) → Speaking → WriteHalf → Type 0
IsWriteHalf wrote written speaker half =
    (s : Speaking) × SendsUntil half.ended wrote written speaker s × (half.viewer ≡ speaker.viewer) × (half.cuts ≡ s.cuts) × (half.sent ≡ all_of s.sent)

-- A viewer that opened was served: its reader heard and its sender sent, until both had ended. The receipt is of both.
abbrev pub IsServedOpen : Option (List ℕ) → Option (List ℕ) → Option (List ℕ) → Option (List ℕ) → Listening → Speaking → Receipt → Type 0
IsServedOpen left remains wrote written listener speaker r =
    (l : Listening) × (s : Speaking) × (ended : Ended) × HearsUntil ended left remains listener l × SendsUntil r.ended wrote written speaker s × (r ≡ receipt_of l s r.ended)

-- What followed an opening. Where it was over, nothing was read or written, and its receipt stays but for the reason of a late one.
abbrev pub Follows : Opened → Option (List ℕ) → Option (List ℕ) → Option (List ℕ) → Option (List ℕ) → Receipt → Type 0
Follows (Ready listener speaker) left remains wrote written r = IsServedOpen left remains wrote written listener speaker r
Follows (Over over parting) left remains wrote written r =
    (is_late : Bool) × (r ≡ record over { ended = ended_late is_late over.ended }) × (remains ≡ left) × (written ≡ wrote)

-- A viewer was served from its greeting on, and its receipt tells what was read and written: in its opening, and in what followed.
pub record IsServed (left remains wrote written : Option (List ℕ)) (line : Greeting) (r : Receipt) : Type 0 where
  pub opened : Opened
  pub unread : Option (List ℕ)
  pub begun : Option (List ℕ)
  pub opening : Opens left unread wrote begun line opened
  pub following : Follows opened unread remains begun written r
