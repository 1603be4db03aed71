-- The answers about receipts, one after another.
use Rattle.std.proofs.Common.{◌≡◌, ℕ, ◌++◌, List, [], ◌∷◌, Result, Ok, Err, refl, ap, append_assoc, sym}
use Rattle.receipts.specs.declared.Sent.{Sent}
use Rattle.receipts.specs.declared.FinishError.{FinishError}
use Rattle.receipts.specs.Checking.{told_before}

-- what stands before an answer
abbrev pub joined : List (ℕ × Sent) → Result (List (ℕ × Sent)) FinishError → Result (List (ℕ × Sent)) FinishError
joined viewers (Ok rest) = Ok (viewers ++ rest)
joined viewers (Err e) = Err e

pub joined-none : (rest : Result (List (ℕ × Sent)) FinishError) → joined [] rest ≡ rest
joined-none (Ok viewers) = refl
joined-none (Err e) = refl

pub joined-one : (viewers : List (ℕ × Sent)) (v : ℕ) (s : Sent) (rest : Result (List (ℕ × Sent)) FinishError) → joined viewers (told_before v (Ok s) rest) ≡ joined (viewers ++ (v, s) ∷ []) rest
joined-one viewers v s (Ok others) = ap Ok (sym (append_assoc viewers ((v, s) ∷ []) others))
joined-one viewers v s (Err e) = refl

pub joined-err : (viewers : List (ℕ × Sent)) (v : ℕ) (one : Result Sent FinishError) (rest : Result (List (ℕ × Sent)) FinishError) (e : FinishError) → one ≡ Err e → joined viewers (told_before v one rest) ≡ Err e
joined-err viewers v one rest e h = ap (λ o. joined viewers (told_before v o rest)) h
