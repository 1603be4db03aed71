-- The answers of the check mean what they say.
use Rattle.std.proofs.Common.{◌≡◌, ℕ, List, [], ◌∷◌, Option, None, Some, Result, Ok, Err, length, refl, ap, ◌∙◌, subst, inl, inr, ◌⊎◌}
use Rattle.std.specs.Prelude.{IfOk, IfErr}
use Rattle.scene.specs.declared.Config.{Config}
use Rattle.scene.specs.declared.Event.{Event}
use Rattle.scene.specs.History.{drawings, connects}
use Rattle.receipts.specs.declared.Receipt.{Receipt}
use Rattle.receipts.specs.declared.Report.{Report}
use Rattle.receipts.specs.declared.Sent.{Sent}
use Rattle.receipts.specs.declared.FinishError.{FinishError}
use Rattle.receipts.specs.declared.FinishError.TheVariants.{NotKept, Drawing, Missing, Count, Bytes, OutOfMemory}
use Rattle.receipts.specs.Differences.{difference, same_event}
use Rattle.receipts.specs.Checking.{without_one, stranger, first_of_two, missing, all_sent, reported, unless_missing, unless_different, checked, Gives}
use Rattle.receipts.specs.Claims.{IsReceiptOf, IsReportOf, EachHasOne, NoneElseHas, IsFirst, IsWrong, LacksOne, IsStranger, IsRefusedFor, reports_are_true, refusals_are_true}
use Rattle.receipts.proofs.Apart.{same_lists_from, first_difference}
use Rattle.receipts.proofs.SameEvents.{event-Decides}
use Rattle.receipts.proofs.Missed.{each_has_one, first_without_one, none_else, first_stranger}
use Rattle.receipts.proofs.Told.{all_told, first_wrong}

-- the viewers are right
record Attended (es : List Event) (rs : List Receipt) : Type 0 where
  each : EachHasOne es rs
  others : NoneElseHas es rs

attended : (es : List Event) (rs : List Receipt) (lacks strange : Option ℕ) → without_one (connects es) rs ≡ lacks → stranger (connects es) rs ≡ strange → first_of_two lacks strange ≡ None → Attended es rs
attended es rs None None lacks strange h = record { each = each_has_one _ rs lacks; others = none_else _ rs strange }
attended es rs None (Some v) lacks strange h = absurd cc
attended es rs (Some v) strange is other h = absurd cc

unattended : (es : List Event) (rs : List Receipt) (v : ℕ) (lacks strange : Option ℕ) → without_one (connects es) rs ≡ lacks → stranger (connects es) rs ≡ strange → first_of_two lacks strange ≡ Some v → LacksOne es rs v ⊎ (EachHasOne es rs × IsStranger es rs v)
unattended es rs v None strange lacks is h = inr (each_has_one _ rs lacks, first_stranger _ rs v (is ∙ h))
unattended es rs v (Some w) strange lacks is h = let same : w ≡ v = cc in inl (first_without_one _ rs v (lacks ∙ ap Some same))

report_of : (c : Config) (es drawn : List Event) (rs : List Receipt) (report : Report) (all : Result (List (ℕ × Sent)) FinishError) → drawings es ≡ drawn → Attended es rs → all_sent c es rs ≡ all → reported es all ≡ Ok report → IsReportOf c es drawn rs report
report_of c es drawn rs report (Err e) drawing there is h = absurd cc
report_of c es drawn rs report (Ok viewers) drawing there is h =
    let same : record { events = length es; viewers = viewers } ≡ report = cc in
    subst (λ told. IsReportOf c es drawn rs told) same (record { drawing = drawing; each_has_one = there.each; none_else = there.others; events = refl; viewers = all_told c es rs viewers is })

pub reports_are_true-holds : reports_are_true
reports_are_true-holds c es drawn rs report h = differs (difference same_event (drawings es) drawn) refl h
  where
    misses : drawings es ≡ drawn → (o : Option ℕ) → missing (connects es) rs ≡ o → unless_missing c es rs o ≡ Ok report → IsReportOf c es drawn rs report
    misses drawing None is h = report_of c es drawn rs report _ drawing (attended es rs _ _ refl refl is) refl h
    misses drawing (Some v) is h = absurd cc

    differs : (o : Option ℕ) → difference same_event (drawings es) drawn ≡ o → unless_different c es rs o ≡ Ok report → IsReportOf c es drawn rs report
    differs None is h = misses (same_lists_from same_event event-Decides (drawings es) drawn is) _ refl h
    differs (Some at) is h = absurd cc

never : {X : Type 0} (right wrong : X → Type 0) → ((x : X) → wrong x → ⊥) → (xs : List X) → IsFirst right wrong xs → ⊥
never right wrong not_wrong [] first = first
never right wrong not_wrong (x ∷ xs) (inl is) = not_wrong x is
never right wrong not_wrong (x ∷ xs) (inr rest) = never right wrong not_wrong xs rest.1

wrong_kinds : (c : Config) (es drawn : List Event) (rs : List Receipt) (e : FinishError) → drawings es ≡ drawn → Attended es rs → IsFirst (λ r. (told : ℕ × Sent) × IsReceiptOf c es r told) (IsWrong c es e) rs → IsRefusedFor c es drawn rs e
wrong_kinds c es drawn rs (Count v) drawing there first = (drawing, there.each, there.others, first)
wrong_kinds c es drawn rs (Bytes v at) drawing there first = (drawing, there.each, there.others, first)
wrong_kinds c es drawn rs NotKept drawing there first = never _ (IsWrong c es NotKept) (λ r w. w) rs first
wrong_kinds c es drawn rs (Drawing at) drawing there first = absurd (never _ (IsWrong c es (Drawing at)) (λ r w. w) rs first)
wrong_kinds c es drawn rs (Missing v) drawing there first = absurd (never _ (IsWrong c es (Missing v)) (λ r w. w) rs first)
wrong_kinds c es drawn rs OutOfMemory drawing there first = never _ (IsWrong c es OutOfMemory) (λ r w. w) rs first

refusal_of : (c : Config) (es drawn : List Event) (rs : List Receipt) (e : FinishError) (all : Result (List (ℕ × Sent)) FinishError) → drawings es ≡ drawn → Attended es rs → all_sent c es rs ≡ all → reported es all ≡ Err e → IsRefusedFor c es drawn rs e
refusal_of c es drawn rs e (Ok viewers) drawing there is h = absurd cc
refusal_of c es drawn rs e (Err d) drawing there is h =
    let same : d ≡ e = cc in wrong_kinds c es drawn rs e drawing there (first_wrong c es rs e (is ∙ ap Err same))

pub refusals_are_true-holds : refusals_are_true
refusals_are_true-holds c es drawn rs e h = differs (difference same_event (drawings es) drawn) refl h
  where
    misses : drawings es ≡ drawn → (o : Option ℕ) → missing (connects es) rs ≡ o → unless_missing c es rs o ≡ Err e → IsRefusedFor c es drawn rs e
    misses drawing None is h = refusal_of c es drawn rs e _ drawing (attended es rs _ _ refl refl is) refl h
    misses drawing (Some v) is h =
        let error : Missing v ≡ e = cc in
        subst (λ x. IsRefusedFor c es drawn rs x) error (drawing, unattended es rs v _ _ refl refl is)

    differs : (o : Option ℕ) → difference same_event (drawings es) drawn ≡ o → unless_different c es rs o ≡ Err e → IsRefusedFor c es drawn rs e
    differs None is h = misses (same_lists_from same_event event-Decides (drawings es) drawn is) _ refl h
    differs (Some at) is h =
        let error : Drawing at ≡ e = cc in
        subst (λ x. IsRefusedFor c es drawn rs x) error (first_difference same_event event-Decides (drawings es) drawn at is)

-- what an answer tells
pub means : (c : Config) (es drawn : List Event) (rs : List Receipt) (result : Result Report FinishError) → reports_are_true → refusals_are_true → Gives result (checked c es drawn rs) →
    IfOk result (λ report. IsReportOf c es drawn rs report) × IfErr result (λ e. IsRefusedFor c es drawn rs e ⊎ (e ≡ OutOfMemory))
means c es drawn rs (Ok report) reports refusals h = (reports c es drawn rs report h, tt)
means c es drawn rs (Err e) reports refusals (inl h) = (tt, inl (refusals c es drawn rs e h))
means c es drawn rs (Err e) reports refusals (inr h) = (tt, inr h)
