-- What the answers about receipts mean.
use Rattle.std.proofs.Common.{◌≡◌, ℕ, nat_eq, Bool, true, false, ◌&&◌, List, [], ◌∷◌, Option, None, Some, Result, Ok, Err, length, refl, sym, ap, ◌∙◌, subst, inl, inr}
use Rattle.std.specs.Prelude.{◌==◌}
use Rattle.std.specs.Bool.{Decides}
use Rattle.std.specs.List.{AllZip}
use Rattle.std.proofs.lemmas.Bool.{and_parts, and_from, eqb-true, eq-eqb, false≢true}
use Rattle.std.proofs.lemmas.Bool.Decides.{not_from_Decides, Decides-eqb}
use Rattle.scene.specs.declared.Config.{Config}
use Rattle.scene.specs.declared.Event.{Event}
use Rattle.receipts.specs.declared.Receipt.{Receipt}
use Rattle.receipts.specs.declared.Sent.{Sent}
use Rattle.receipts.specs.declared.Sent.TheVariants.{Whole, Prefix}
use Rattle.receipts.specs.declared.Ended.{Ended}
use Rattle.receipts.specs.declared.Ended.TheVariants.{WriteFailed, Memory, Gate, Frames}
use Rattle.receipts.specs.declared.FinishError.{FinishError}
use Rattle.receipts.specs.declared.FinishError.TheVariants.{Count, Bytes}
use Rattle.receipts.specs.Differences.{difference, IsFirstDifference, IsProperPrefix}
use Rattle.receipts.specs.Histories.{bytes_of}
use Rattle.receipts.specs.Checking.{counts_are, may_break_off, sent_by, sent_of, told_before, all_sent}
use Rattle.receipts.specs.Claims.{CountsAre, IsBrokenOff, IsSentAs, IsReceiptOf, IsFirst, IsWrong}
use Rattle.receipts.proofs.Apart.{same_lists_from, first_difference, begins, begins_there}
use Rattle.receipts.proofs.SameEvents.{numbers-Decides}

counts-Decides : (es : List Event) (r : Receipt) → Decides (counts_are es r) (CountsAre es r)
counts-Decides es r = (forth, back)
  where
    forth : counts_are es r ≡ true → CountsAre es r
    forth h =
        let last = and_parts _ _ h in
        let first = and_parts _ _ last.0 in
        record { pieces = eqb-true _ _ first.0; cuts = eqb-true _ _ first.1; heard = (numbers-Decides _ _).0 last.1 }

    back : CountsAre es r → counts_are es r ≡ true
    back h = and_from _ _ (and_from _ _ (eq-eqb _ _ h.pieces) (eq-eqb _ _ h.cuts)) ((numbers-Decides _ _).1 h.heard)

broken_off : (e : Ended) → may_break_off e ≡ true → IsBrokenOff e
broken_off WriteFailed h = inl refl
broken_off Memory h = inr (inl refl)
broken_off Gate h = inr (inr (inl refl))
broken_off (Frames code) h = inr (inr (inr (code, refl)))
broken_off _ h = absurd (false≢true h)

may_from : (e : Ended) → IsBrokenOff e → may_break_off e ≡ true
may_from e (inl is) = ap may_break_off is
may_from e (inr (inl is)) = ap may_break_off is
may_from e (inr (inr (inl is))) = ap may_break_off is
may_from e (inr (inr (inr is))) = ap may_break_off is.1

-- a receipt that is accepted
sent_as : (r : Receipt) (due : List ℕ) (s : Sent) (o : Option ℕ) → difference nat_eq r.sent due ≡ o → sent_by r o ≡ Ok s → IsSentAs r due s
sent_as r due s None is h =
    let whole : Whole ≡ s = cc in
    subst (λ t. IsSentAs r due t) whole (same_lists_from nat_eq Decides-eqb r.sent due is)
sent_as r due s (Some at) is h = go ((at == length r.sent) && may_break_off r.ended) refl
  where
    go : (b : Bool) → ((at == length r.sent) && may_break_off r.ended) ≡ b → IsSentAs r due s
    go true e =
        let both = and_parts _ _ e in
        let there : at ≡ length r.sent = eqb-true _ _ both.0 in
        let first : IsFirstDifference r.sent due at = first_difference nat_eq Decides-eqb r.sent due at is in
        let ok : ◌≡◌ {A = Result Sent FinishError} (Ok Prefix) (Ok s) = rw e at h in
        let prefix : Prefix ≡ s = cc in
        subst (λ t. IsSentAs r due t) prefix (begins r.sent due (subst (λ n. IsFirstDifference r.sent due n) there first), broken_off r.ended both.1)
    go false e = let ok : ◌≡◌ {A = Result Sent FinishError} (Err (Bytes r.viewer at)) (Ok s) = rw e at h in absurd cc

receipt_of : (c : Config) (es : List Event) (r : Receipt) (s : Sent) → sent_of c es r ≡ Ok s → IsReceiptOf c es r (r.viewer, s)
receipt_of c es r s h = go (counts_are es r) refl
  where
    go : (b : Bool) → counts_are es r ≡ b → IsReceiptOf c es r (r.viewer, s)
    go true e = record { viewer = refl; counts = (counts-Decides es r).0 e; sent = sent_as r _ s _ refl (rw e at h) }
    go false e = let ok : ◌≡◌ {A = Result Sent FinishError} (Err (Count r.viewer)) (Ok s) = rw e at h in absurd cc

-- and one that is not
wrong_bytes : (c : Config) (es : List Event) (r : Receipt) (e : FinishError) (o : Option ℕ) → CountsAre es r → difference nat_eq r.sent (bytes_of c r.viewer es) ≡ o → sent_by r o ≡ Err e → IsWrong c es e r
wrong_bytes c es r e None counts is h = absurd cc
wrong_bytes c es r e (Some at) counts is h = go ((at == length r.sent) && may_break_off r.ended) refl
  where
    first : IsFirstDifference r.sent (bytes_of c r.viewer es) at
    first = first_difference nat_eq Decides-eqb r.sent (bytes_of c r.viewer es) at is

    both : IsProperPrefix r.sent (bytes_of c r.viewer es) → IsBrokenOff r.ended → ((at == length r.sent) && may_break_off r.ended) ≡ true
    both p off =
        let there = begins_there r.sent p.1.0 p.0 at (subst (λ ys. IsFirstDifference r.sent ys at) p.1.1 first) in
        and_from _ _ (eq-eqb _ _ there) (may_from r.ended off)

    go : (b : Bool) → ((at == length r.sent) && may_break_off r.ended) ≡ b → IsWrong c es e r
    go true t = let ok : ◌≡◌ {A = Result Sent FinishError} (Ok Prefix) (Err e) = rw t at h in absurd cc
    go false t =
        let err : ◌≡◌ {A = Result Sent FinishError} (Err (Bytes r.viewer at)) (Err e) = rw t at h in
        let error : Bytes r.viewer at ≡ e = cc in
        subst (λ x. IsWrong c es x r) error (refl, counts, first, λ p off. false≢true (sym t ∙ both p off))

wrong_receipt : (c : Config) (es : List Event) (r : Receipt) (e : FinishError) → sent_of c es r ≡ Err e → IsWrong c es e r
wrong_receipt c es r e h = go (counts_are es r) refl
  where
    go : (b : Bool) → counts_are es r ≡ b → IsWrong c es e r
    go true t = wrong_bytes c es r e _ ((counts-Decides es r).0 t) refl (rw t at h)
    go false t =
        let err : ◌≡◌ {A = Result Sent FinishError} (Err (Count r.viewer)) (Err e) = rw t at h in
        let error : Count r.viewer ≡ e = cc in
        subst (λ x. IsWrong c es x r) error (refl, not_from_Decides _ (counts-Decides es r) t)

-- all receipts
pub all_told : (c : Config) (es : List Event) (rs : List Receipt) (viewers : List (ℕ × Sent)) → all_sent c es rs ≡ Ok viewers → AllZip (IsReceiptOf c es) rs viewers
all_told c es [] viewers h = go viewers h
  where
    go : (ts : List (ℕ × Sent)) → ◌≡◌ {A = Result (List (ℕ × Sent)) FinishError} (Ok []) (Ok ts) → AllZip (IsReceiptOf c es) [] ts
    go [] h = tt
    go (t ∷ ts) h = absurd cc
all_told c es (r ∷ rs) viewers h = go (sent_of c es r) (all_sent c es rs) refl (all_told c es rs) viewers h
  where
    go : (one : Result Sent FinishError) (rest : Result (List (ℕ × Sent)) FinishError) → sent_of c es r ≡ one → ((ts : List (ℕ × Sent)) → rest ≡ Ok ts → AllZip (IsReceiptOf c es) rs ts) → (ts : List (ℕ × Sent)) → told_before r.viewer one rest ≡ Ok ts → AllZip (IsReceiptOf c es) (r ∷ rs) ts
    go (Err e) rest is tails ts t = absurd cc
    go (Ok s) (Err e) is tails ts t = absurd cc
    go (Ok s) (Ok us) is tails [] t = absurd cc
    go (Ok s) (Ok us) is tails (u ∷ ts) t =
        let head : (r.viewer, s) ≡ u = cc in
        let same : us ≡ ts = cc in
        (subst (λ told. IsReceiptOf c es r told) head (receipt_of c es r s is), tails ts (ap Ok same))

pub first_wrong : (c : Config) (es : List Event) (rs : List Receipt) (e : FinishError) → all_sent c es rs ≡ Err e → IsFirst (λ r. (told : ℕ × Sent) × IsReceiptOf c es r told) (IsWrong c es e) rs
first_wrong c es [] e h = absurd cc
first_wrong c es (r ∷ rs) e h = go (sent_of c es r) (all_sent c es rs) refl (first_wrong c es rs e) h
  where
    go : (one : Result Sent FinishError) (rest : Result (List (ℕ × Sent)) FinishError) → sent_of c es r ≡ one → (rest ≡ Err e → IsFirst (λ s. (told : ℕ × Sent) × IsReceiptOf c es s told) (IsWrong c es e) rs) → told_before r.viewer one rest ≡ Err e → IsFirst (λ s. (told : ℕ × Sent) × IsReceiptOf c es s told) (IsWrong c es e) (r ∷ rs)
    go (Err d) rest is tails t =
        let same : d ≡ e = cc in
        inl (wrong_receipt c es r e (is ∙ ap Err same))
    go (Ok s) (Err d) is tails t = let same : d ≡ e = cc in inr (((r.viewer, s), receipt_of c es r s is), tails (ap Err same))
    go (Ok s) (Ok us) is tails t = absurd cc
