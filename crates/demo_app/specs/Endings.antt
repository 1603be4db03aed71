-- What is printed of how viewers ended, and of the judgement of a run.
use Rattle.std.specs.Prelude.{◌≡◌, ℕ, ◌+◌, Bool, true, false, List, [], ◌∷◌, ◌++◌, codes, length, if◌then◌else◌, Option, Some, None, Result, Ok, Err}
use Rattle.std.specs.List.{flat_map, list_all}
use Rattle.std.specs.Io.KnownBytes.{Appends}
use Rattle.std.specs.Fmt.{decimal}
use Rattle.receipts.specs.declared.Ended.{Ended}
use Rattle.receipts.specs.declared.Ended.TheVariants as ended
use Rattle.receipts.specs.declared.FinishError.{FinishError}
use Rattle.receipts.specs.declared.FinishError.TheVariants as fault
use Rattle.receipts.specs.declared.Receipt.{Receipt}
use Rattle.receipts.specs.declared.Report.{Report}

abbrev pub end_name : Ended → List ℕ
end_name ended.EndOfInput = codes "EndOfInput"
end_name (ended.Fault met) = codes "Fault"
end_name ended.ReadFailed = codes "ReadFailed"
end_name ended.WriteFailed = codes "WriteFailed"
end_name ended.Memory = codes "Memory"
end_name ended.Gate = codes "Gate"
end_name ended.Closed = codes "Closed"
end_name ended.Stopped = codes "Stopped"
end_name (ended.Frames code) = codes "Frames"

-- viewer V END
abbrev pub end_line : Receipt → List ℕ
end_line r = codes "viewer " ++ (decimal r.viewer ++ (codes " " ++ (end_name r.ended ++ codes "\n")))

-- a line for each receipt, in their order
abbrev pub ends_text : List Receipt → List ℕ
ends_text receipts = flat_map end_line receipts

-- the code of what is wrong with a run, and its name
abbrev pub wrong_name : FinishError → List ℕ
wrong_name fault.NotKept = codes "1 NotKept"
wrong_name (fault.Drawing place) = codes "2 Drawing"
wrong_name (fault.Missing viewer) = codes "3 Missing"
wrong_name (fault.Count viewer) = codes "4 Count"
wrong_name (fault.Bytes viewer place) = codes "5 Bytes"
wrong_name fault.OutOfMemory = codes "6 OutOfMemory"

-- finish CODE NAME
abbrev pub wrong_line : FinishError → List ℕ
wrong_line e = codes "finish " ++ (wrong_name e ++ codes "\n")

-- the same, or finish ok
abbrev pub judgement_line : {X : Type 0} → Result X FinishError → List ℕ
judgement_line (Ok report) = codes "finish ok\n"
judgement_line (Err e) = wrong_line e

abbrev pub judgement_status : {X : Type 0} → Result X FinishError → ℕ
judgement_status (Ok report) = 0
judgement_status (Err e) = 4

-- the last line that was printed is a judgement's, and so is the status
abbrev pub Judged : Option (List ℕ) → Option (List ℕ) → ℕ → Type 0
Judged before after status = (lines : List ℕ) × (judgement : Result Report FinishError) × Appends before after (lines ++ judgement_line judgement) × (status ≡ judgement_status judgement)

-- such a judgement is all that was printed, and the status is its
abbrev pub Tells : (Result Report FinishError → Type 0) → Option (List ℕ) → Option (List ℕ) → ℕ → Type 0
Tells IsSuch before after status = (judgement : Result Report FinishError) × IsSuch judgement × Appends before after (judgement_line judgement) × (status ≡ judgement_status judgement)

-- there is a judgement where there is to be one, and it is such
abbrev pub IsJudged : Bool → (Result Report FinishError → Type 0) → Option (Result Report FinishError) → Type 0
IsJudged check IsSuch None = check ≡ false
IsJudged check IsSuch (Some judgement) = (check ≡ true) × IsSuch judgement

-- the lines of how viewers ended, and behind them the judgement's, where there is one
abbrev pub run_text : List Receipt → Option (Result Report FinishError) → List ℕ
run_text receipts None = ends_text receipts
run_text receipts (Some judgement) = ends_text receipts ++ judgement_line judgement

abbrev pub run_status : Option (Result Report FinishError) → ℕ
run_status None = 0
run_status (Some judgement) = judgement_status judgement

-- these are all that was printed, where there is a judgement such a one, and the status is its
abbrev pub PrintsOf : Bool → List Receipt → (Result Report FinishError → Type 0) → Option (List ℕ) → Option (List ℕ) → ℕ → Type 0
PrintsOf check receipts IsSuch before after status =
    (judgement : Option (Result Report FinishError)) × IsJudged check IsSuch judgement × Appends before after (run_text receipts judgement) × (status ≡ run_status judgement)

abbrev pub shown_text : Bool → List ℕ
shown_text true = codes " shows the screen\n"
shown_text false = codes " does not show the screen\n"

-- viewer V shows the screen, or that it doesn't
abbrev pub show_line : ℕ → Bool → List ℕ
show_line viewer shows = codes "viewer " ++ (decimal viewer ++ shown_text shows)

-- a line for each viewer, of which the first has this number
abbrev pub shows_text : ℕ → List Bool → List ℕ
shows_text viewer [] = []
shows_text viewer (shows ∷ others) = show_line viewer shows ++ shows_text (viewer + 1) others

-- the status of a judgement where each viewer shows the screen
abbrev pub status_where : List Bool → ℕ → ℕ
status_where shows judged = if list_all (λ shows. shows) shows then judged else 4

-- What each viewer shows was printed, of so many, and such a judgement, and nothing else. The status is 0 where each shows the screen and the judgement is ok, else 4.
abbrev pub PrintsOwn : ℕ → (Result Report FinishError → Type 0) → Option (List ℕ) → Option (List ℕ) → ℕ → Type 0
PrintsOwn viewers IsSuch before after status =
    (shows : List Bool) × (judgement : Result Report FinishError) × (length shows ≡ viewers) × IsSuch judgement × Appends before after (shows_text 1 shows ++ judgement_line judgement) × (status ≡ status_where shows (judgement_status judgement))
