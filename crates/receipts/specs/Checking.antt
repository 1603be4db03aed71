-- Whether receipts are those of a history, step by step, with the first thing that is wrong.
use Rattle.std.specs.Prelude.{◌≡◌, ℕ, nat_eq, ◌==◌, Bool, true, false, ◌&&◌, if◌then◌else◌, List, [], ◌∷◌, length, Option, Some, None, Result, Ok, Err, MatchResult, ◌⊎◌}
use Rattle.std.specs.List.{count_by, list_any}
use Rattle.scene.specs.declared.Config.{Config}
use Rattle.scene.specs.declared.Event.{Event}
use Rattle.scene.specs.History.{drawings, connects}
use Rattle.receipts.specs.declared.Receipt.{Receipt}
use Rattle.receipts.specs.declared.Report.{Report}
use Rattle.receipts.specs.declared.Sent.{Sent}
use Rattle.receipts.specs.declared.Sent.TheVariants as sent
use Rattle.receipts.specs.declared.Ended.{Ended}
use Rattle.receipts.specs.declared.Ended.TheVariants.{WriteFailed, Memory, Gate, Frames}
use Rattle.receipts.specs.declared.FinishError.{FinishError}
use Rattle.receipts.specs.declared.FinishError.TheVariants as errors
use Rattle.receipts.specs.Differences.{difference, same_event}
use Rattle.receipts.specs.Histories.{pieces_of, heard_of, cuts_of, bytes_of}
use Rattle.std.specs.Cmp.Lexicographic.{pointwise}

-- how many receipts a viewer has
abbrev pub receipts_for : ℕ → List Receipt → ℕ
receipts_for v rs = count_by (λ r. r.viewer == v) rs

-- the first of these viewers without exactly one receipt
abbrev pub without_one : List ℕ → List Receipt → Option ℕ
without_one [] rs = None
without_one (v ∷ vs) rs = if receipts_for v rs == 1 then without_one vs rs else Some v

-- the viewer of the first receipt that is none of theirs
abbrev pub stranger : List ℕ → List Receipt → Option ℕ
stranger vs [] = None
stranger vs (r ∷ rs) = if list_any (λ v. v == r.viewer) vs then stranger vs rs else Some r.viewer

abbrev pub first_of_two : Option ℕ → Option ℕ → Option ℕ
first_of_two None other = other
first_of_two (Some v) other = Some v

abbrev pub missing : List ℕ → List Receipt → Option ℕ
missing vs rs = first_of_two (without_one vs rs) (stranger vs rs)

-- the pieces, the cuts and the bytes heard are the history's
abbrev pub counts_are : List Event → Receipt → Bool
counts_are es r = r.pieces == length (pieces_of r.viewer es) && r.cuts == cuts_of r.viewer es && pointwise nat_eq r.heard (heard_of r.viewer es)

-- a sender that ended so may have left its last writes undone
abbrev pub may_break_off : Ended → Bool
may_break_off WriteFailed = true
may_break_off Memory = true
may_break_off Gate = true
may_break_off (Frames code) = true
may_break_off _ = false

-- by the first place at which what was sent differs from what is to be sent: where that is the end of what was sent, it is a proper prefix
abbrev pub sent_by : Receipt → Option ℕ → Result Sent FinishError
sent_by r None = Ok sent.Whole
sent_by r (Some at) = if at == length r.sent && may_break_off r.ended then Ok sent.Prefix else Err (errors.Bytes r.viewer at)

abbrev pub sent_of : Config → List Event → Receipt → Result Sent FinishError
sent_of c es r = if counts_are es r then sent_by r (difference nat_eq r.sent (bytes_of c r.viewer es)) else Err (errors.Count r.viewer)

abbrev pub and_then : ℕ × Sent → Result (List (ℕ × Sent)) FinishError → Result (List (ℕ × Sent)) FinishError
and_then told (Ok viewers) = Ok (told ∷ viewers)
and_then told (Err e) = Err e

abbrev pub told_before : ℕ → Result Sent FinishError → Result (List (ℕ × Sent)) FinishError → Result (List (ℕ × Sent)) FinishError
told_before v (Ok s) rest = and_then (v, s) rest
told_before v (Err e) rest = Err e

-- each receipt in order
abbrev pub all_sent : Config → List Event → List Receipt → Result (List (ℕ × Sent)) FinishError
all_sent c es [] = Ok []
all_sent c es (r ∷ rs) = told_before r.viewer (sent_of c es r) (all_sent c es rs)

abbrev pub reported : List Event → Result (List (ℕ × Sent)) FinishError → Result Report FinishError
reported es (Ok viewers) = Ok (record { events = length es; viewers = viewers })
reported es (Err e) = Err e

abbrev pub unless_missing : Config → List Event → List Receipt → Option ℕ → Result Report FinishError
unless_missing c es rs None = reported es (all_sent c es rs)
unless_missing c es rs (Some v) = Err (errors.Missing v)

abbrev pub unless_different : Config → List Event → List Receipt → Option ℕ → Result Report FinishError
unless_different c es rs None = unless_missing c es rs (missing (connects es) rs)
unless_different c es rs (Some at) = Err (errors.Drawing at)

-- The history's drawing calls are those that were drawn, each viewer that connected has one receipt, and each receipt is what the history says of its viewer.
abbrev pub checked : Config → List Event → List Event → List Receipt → Result Report FinishError
checked c es drawn rs = unless_different c es rs (difference same_event (drawings es) drawn)

-- an answer is this one, or want of memory
abbrev pub Gives : {X : Type 0} → Result X FinishError → Result X FinishError → Type 0
Gives result is = MatchResult result (λ x. is ≡ Ok x) (λ e. (is ≡ Err e) ⊎ (e ≡ errors.OutOfMemory))
