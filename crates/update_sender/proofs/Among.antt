-- A drawing call that differs is one of those that were drawn.
use Rattle.std.proofs.Common.{◌≡◌, ◌<◌, ◌≤◌, ℕ, List, [], ◌⊎◌, inl, inr, length, drop, subst, arith}
use Rattle.std.proofs.lemmas.Bool.Decides.{leb_tells}
use Rattle.std.proofs.lemmas.List.{drop_all}
use Rattle.std.specs.Prelude.{Result, Ok, Err, IfErr}
use Rattle.screen.specs.declared.Config.{Config}
use Rattle.screen.specs.declared.Event.{Event}
use Rattle.screen.specs.History.{drawings}
use Rattle.receipts.specs.declared.Receipt.{Receipt}
use Rattle.receipts.specs.declared.Report.{Report}
use Rattle.receipts.specs.declared.FinishError.{FinishError}
use Rattle.receipts.specs.declared.FinishError.TheVariants.{NotKept, Drawing, Missing, Count, Bytes, OutOfMemory}
use Rattle.receipts.specs.Differences.{IsFirstDifference, StartApart}
use Rattle.receipts.specs.Claims.{IsRefusedFor}
use Rattle.update_sender.specs.Finishing.{IsAmong}

-- lists of one length differ first at a place of both
first-among : {X : Type 0} (xs ys : List X) (at : ℕ) → length xs ≡ length ys → IsFirstDifference xs ys at → at < length ys
first-among xs ys at same d = elim (leb_tells (length ys) at) [ inl h ↦ absurd (gone h.1) | inr h ↦ h.1 ]
  where
    gone : length ys ≤ at → ⊥
    gone past =
        let first : drop at xs ≡ [] = drop_all at xs (omega (arith, past, same)) in
        let second : drop at ys ≡ [] = drop_all at ys past in
        subst (λ l. StartApart [] l) second (subst (λ l. StartApart l (drop at ys)) first d.apart)

pub among : (c : Config) (history drawn : List Event) (receipts : List Receipt) (result : Result Report FinishError) → length (drawings history) ≡ length drawn
    → IfErr result (λ e. IsRefusedFor c history drawn receipts e ⊎ (e ≡ OutOfMemory)) → IfErr result (IsAmong (length drawn))
among c history drawn receipts (Ok report) same h = tt
among c history drawn receipts (Err NotKept) same h = tt
among c history drawn receipts (Err (Drawing at)) same (inl d) = first-among (drawings history) drawn at same d
among c history drawn receipts (Err (Drawing at)) same (inr e) = absurd cc
among c history drawn receipts (Err (Missing v)) same h = tt
among c history drawn receipts (Err (Count v)) same h = tt
among c history drawn receipts (Err (Bytes v at)) same h = tt
among c history drawn receipts (Err OutOfMemory) same h = tt
