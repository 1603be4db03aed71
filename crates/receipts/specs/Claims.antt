-- What an answer of the check means.
use Rattle.std.specs.Prelude.{◌≡◌, ℕ, List, [], ◌∷◌, length, Ok, Err, ◌⊎◌}
use Rattle.std.specs.List.{All, Contains, AllZip}
use Rattle.scene.specs.declared.Config.{Config}
use Rattle.scene.specs.declared.Event.{Event}
use Rattle.scene.specs.History.{drawings, connects}
use Rattle.receipts.specs.declared.Receipt.{Receipt}
use Rattle.receipts.specs.declared.Report.{Report}
use Rattle.receipts.specs.declared.Sent.{Sent}
use Rattle.receipts.specs.declared.Sent.TheVariants.{Whole, Prefix}
use Rattle.receipts.specs.declared.Ended.{Ended}
use Rattle.receipts.specs.declared.Ended.TheVariants.{WriteFailed, Memory, Gate, Frames}
use Rattle.receipts.specs.declared.FinishError.{FinishError}
use Rattle.receipts.specs.declared.FinishError.TheVariants.{NotKept, Drawing, Missing, Count, Bytes, OutOfMemory}
use Rattle.receipts.specs.Differences.{IsFirstDifference, IsProperPrefix}
use Rattle.receipts.specs.Histories.{pieces_of, heard_of, cuts_of, bytes_of}
use Rattle.receipts.specs.Checking.{receipts_for, checked}

-- An accepted history.

-- a receipt has the pieces, the cuts and the bytes heard that the history has of its viewer
pub record CountsAre (history : List Event) (r : Receipt) : Type 0 where
  pub pieces : r.pieces ≡ length (pieces_of r.viewer history)
  pub cuts : r.cuts ≡ cuts_of r.viewer history
  pub heard : r.heard ≡ heard_of r.viewer history

-- a write failed, memory was wanted, the gate refused, or what a browser sent was answered by a close
abbrev pub IsBrokenOff : Ended → Type 0
IsBrokenOff ended = (ended ≡ WriteFailed) ⊎ ((ended ≡ Memory) ⊎ ((ended ≡ Gate) ⊎ ((code : ℕ) × (ended ≡ Frames code))))

-- how much was sent of what was due: all of it, or where the sender broke off its first bytes
abbrev pub IsSentAs : Receipt → List ℕ → Sent → Type 0
IsSentAs r due Whole = r.sent ≡ due
IsSentAs r due Prefix = IsProperPrefix r.sent due × IsBrokenOff r.ended

-- a receipt is what the history says of its viewer, and is reported with how much was sent; due is what the viewer is sent where it is alone with the drawing calls
pub record IsReceiptOf (c : Config) (history : List Event) (r : Receipt) (told : ℕ × Sent) : Type 0 where
  pub viewer : told.0 ≡ r.viewer
  pub counts : CountsAre history r
  pub sent : IsSentAs r (bytes_of c r.viewer history) told.1

-- each viewer that connected has exactly one receipt
abbrev pub EachHasOne : List Event → List Receipt → Type 0
EachHasOne history receipts = All (λ v. receipts_for v receipts ≡ 1) (connects history)

abbrev pub HasConnected : List Event → ℕ → Type 0
HasConnected history v = Contains (connects history) v

-- and no other viewer has one
abbrev pub NoneElseHas : List Event → List Receipt → Type 0
NoneElseHas history receipts = All (λ r. HasConnected history r.viewer) receipts

pub record IsReportOf (c : Config) (history drawn : List Event) (receipts : List Receipt) (report : Report) : Type 0 where
  pub drawing : drawings history ≡ drawn
  pub each_has_one : EachHasOne history receipts
  pub none_else : NoneElseHas history receipts
  pub events : report.events ≡ length history
  pub viewers : AllZip (IsReceiptOf c history) receipts report.viewers

-- A history is accepted only where it is what was drawn and what the receipts say.
abbrev pub reports_are_true : Type 0
reports_are_true = (c : Config) (history drawn : List Event) (receipts : List Receipt) (report : Report) →
    checked c history drawn receipts ≡ Ok report → IsReportOf c history drawn receipts report

-- A refused history.

-- an element is wrong in some way, and each before it is right
abbrev pub IsFirst : {X : Type 0} → (X → Type 0) → (X → Type 0) → List X → Type 0
IsFirst right wrong [] = ⊥
IsFirst right wrong (x ∷ xs) = wrong x ⊎ (right x × IsFirst right wrong xs)

-- the first viewer that connected without having exactly one receipt
abbrev pub LacksOne : List Event → List Receipt → ℕ → Type 0
LacksOne history receipts v = IsFirst (λ w. receipts_for w receipts ≡ 1) (λ w. (w ≡ v) × (receipts_for w receipts ≡ 1 → ⊥)) (connects history)

-- the viewer of the first receipt whose viewer never connected
abbrev pub IsStranger : List Event → List Receipt → ℕ → Type 0
IsStranger history receipts v = IsFirst (λ r. HasConnected history r.viewer) (λ r. (r.viewer ≡ v) × (HasConnected history r.viewer → ⊥)) receipts

-- what is wrong with a receipt: its counts are not the history's; or else what was sent is neither what was due nor, from a sender that broke off, the first bytes of it
abbrev pub IsWrong : Config → List Event → FinishError → Receipt → Type 0
IsWrong c history (Count v) r = (r.viewer ≡ v) × (CountsAre history r → ⊥)
IsWrong c history (Bytes v at) r =
    (r.viewer ≡ v) × CountsAre history r × IsFirstDifference r.sent (bytes_of c r.viewer history) at × (IsProperPrefix r.sent (bytes_of c r.viewer history) → IsBrokenOff r.ended → ⊥)
IsWrong c history _ r = ⊥

-- the first receipt that is wrong, where the drawing calls and the viewers are right
abbrev pub HasWrong : Config → List Event → List Event → List Receipt → FinishError → Type 0
HasWrong c history drawn receipts e =
    (drawings history ≡ drawn) × EachHasOne history receipts × NoneElseHas history receipts × IsFirst (λ r. (told : ℕ × Sent) × IsReceiptOf c history r told) (IsWrong c history e) receipts

-- why a history is refused: the first of these that holds
abbrev pub IsRefusedFor : Config → List Event → List Event → List Receipt → FinishError → Type 0
IsRefusedFor c history drawn receipts NotKept = ⊥
IsRefusedFor c history drawn receipts (Drawing at) = IsFirstDifference (drawings history) drawn at
IsRefusedFor c history drawn receipts (Missing v) = (drawings history ≡ drawn) × (LacksOne history receipts v ⊎ (EachHasOne history receipts × IsStranger history receipts v))
IsRefusedFor c history drawn receipts (Count v) = HasWrong c history drawn receipts (Count v)
IsRefusedFor c history drawn receipts (Bytes v at) = HasWrong c history drawn receipts (Bytes v at)
IsRefusedFor c history drawn receipts OutOfMemory = ⊥

-- A history is refused only for what is wrong with it.
abbrev pub refusals_are_true : Type 0
refusals_are_true = (c : Config) (history drawn : List Event) (receipts : List Receipt) (e : FinishError) →
    checked c history drawn receipts ≡ Err e → IsRefusedFor c history drawn receipts e
