-- What a run printed last, and its status.
use Rattle.std.proofs.Common.{◌≡◌, ◌⊎◌, ℕ, List, [], ◌++◌, Option, Result, Ok, Err, IfOk, OnOk, inr, sym, subst, append_assoc}
use Rattle.std.specs.Io.KnownBytes.{Appends}
use Rattle.std.proofs.KnownBytes.{Appends-trans}
use Rattle.receipts.specs.declared.FinishError.{FinishError}
use Rattle.receipts.specs.declared.Report.{Report}
use Rattle.demo_app.specs.Endings.{Judged, Tells, judgement_line, judgement_status}

-- a judgement that was printed
pub judged_here : {E : Type 0} (a b : Option (List ℕ)) (r : Result ℕ E) (j : Result Report FinishError) → OnOk r (Appends a b (judgement_line j)) → IfOk r (λ s. s ≡ judgement_status j) → IfOk r (Judged a b)
judged_here a b (Ok s) j printed e = ([], j, printed, e)
judged_here a b (Err e) j printed is = tt

pub told_here : {E : Type 0} (IsSuch : Result Report FinishError → Type 0) (a b : Option (List ℕ)) (r : Result ℕ E) (j : Result Report FinishError) → IsSuch j → OnOk r (Appends a b (judgement_line j)) → IfOk r (λ s. s ≡ judgement_status j) → IfOk r (Tells IsSuch a b)
told_here IsSuch a b (Ok s) j such printed e = (j, such, printed, e)
told_here IsSuch a b (Err e) j such printed is = tt

judged_behind : (a b c : Option (List ℕ)) (lines : List ℕ) (s : ℕ) → Appends a b lines → Judged b c s → Judged a c s
judged_behind a b c lines s first j =
    (lines ++ j.0, j.1, subst (Appends a c) (sym (append_assoc lines j.0 (judgement_line j.1))) (Appends-trans a b c lines (j.0 ++ judgement_line j.1) first j.2), j.3)

-- the same behind other lines
pub judged_last : {E : Type 0} (a b c : Option (List ℕ)) (lines : List ℕ) (r : Result ℕ E) → Appends a b lines → IfOk r (Judged b c) → IfOk r (λ s. (s ≡ 1) ⊎ Judged a c s)
judged_last a b c lines (Ok s) first j = inr (judged_behind a b c lines s first j)
judged_last a b c lines (Err e) first j = tt
