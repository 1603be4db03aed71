-- What a run shows once its threads have ended.
use Rattle.std.specs.Prelude.{◌≡◌, ◌<◌, ℕ, true, List, length, Option, Some, None, Result, Err, IfOk, IfErr, ◌⊎◌}
use Rattle.screen.specs.declared.Config.{Config}
use Rattle.screen.specs.declared.History.{History}
use Rattle.screen.specs.declared.History.TheVariants.{Kept, NotKept}
use Rattle.screen.specs.declared.Event.{Event}
use Rattle.screen.specs.History.{drawings, connects}
use Rattle.receipts.specs.declared.Receipt.{Receipt}
use Rattle.receipts.specs.declared.Report.{Report}
use Rattle.receipts.specs.declared.FinishError.{FinishError}
use Rattle.receipts.specs.declared.FinishError.TheVariants as errors
use Rattle.receipts.specs.Checking.{checked, Gives}
use Rattle.receipts.specs.Claims.{IsReportOf, IsRefusedFor}
use Rattle.update_sender.specs.Numbers.{rises}

-- the place of a drawing call that differs is one of so many
abbrev pub IsAmong : ℕ → FinishError → Type 0
IsAmong count (errors.Drawing at) = at < count
IsAmong count _ = Unit {0}

-- There is a history whose viewers connected by rising numbers and which has as many drawing calls as were drawn; the answer is what the check says of it, or want of memory. So a report is that history's, and a refusal is for what is wrong with it: a drawing call that differs is one of the history's and one of those drawn.
pub record Judges (c : Config) (drawn : List Event) (receipts : List Receipt) (result : Result Report FinishError) : Type 0 where
  pub history : List Event
  pub rising : rises (connects history) ≡ true
  pub as_many : length (drawings history) ≡ length drawn
  pub checked : Gives result (checked c history drawn receipts)
  pub report : IfOk result (λ report. IsReportOf c history drawn receipts report)
  pub among : IfErr result (IsAmong (length drawn))
  pub refusal : IfErr result (λ e. IsRefusedFor c history drawn receipts e ⊎ (e ≡ errors.OutOfMemory))

-- The answer where the history is kept: what is judged of the brush's list, or want of memory. (A brush that keeps no list is none of such a screen's.)
abbrev pub JudgesDrawn : Config → Option (List Event) → List Receipt → Result Report FinishError → Type 0
JudgesDrawn c None receipts result = result ≡ Err errors.OutOfMemory
JudgesDrawn c (Some drawn) receipts result = Judges c drawn receipts result ⊎ (result ≡ Err errors.OutOfMemory)

abbrev pub Finishes : Config → Option (List Event) → List Receipt → Result Report FinishError → Type 0
Finishes c drawn receipts result = by_history c.history
  where
    by_history : History → Type 0
    by_history Kept = JudgesDrawn c drawn receipts result
    by_history NotKept = result ≡ Err errors.NotKept
