-- What a run printed, and its status.
use Rattle.std.proofs.Common.{◌≡◌, ◌⊎◌, ◌+◌, ℕ, suc, Bool, true, false, List, [], ◌∷◌, ◌++◌, length, Option, Some, None, Result, Ok, Err, IfOk, OnOk, refl, sym, ap, ◌∙◌, subst, inl, inr, append_assoc, append-nil, arith}
use Rattle.std.specs.Global.{Vec}
use Rattle.std.specs.Io.KnownBytes.{Appends, Keeps}
use Rattle.std.proofs.KnownBytes.{Appends-trans}
use Rattle.screen.specs.declared.Config.{Config}
use Rattle.screen.specs.declared.Event.{Event}
use Rattle.receipts.specs.declared.FinishError.{FinishError}
use Rattle.receipts.specs.declared.Receipt.{Receipt}
use Rattle.receipts.specs.declared.Report.{Report}
use Rattle.serving.specs.Serving.{AreNumbered, AreServed}
use Rattle.update_sender.specs.Finishing.{Finishes}
use Rattle.demo_app.specs.declared.serve.ServeOptions.{ServeOptions}
use Rattle.demo_app.specs.Endings.{Judged, Tells, IsJudged, PrintsOf, PrintsOwn, ends_text, judgement_line, judgement_status, run_status, run_text, show_line, shows_text, status_where}
use Rattle.demo_app.specs.Runs.{AreGiven, PrintsLoop, PrintsServed}
use Rattle.demo_app.specs.Screens.{config_by}

appends-kept : (a b c : Option (List ℕ)) (bs : List ℕ) → Appends a b bs → Keeps b c → Appends a c bs
appends-kept None b c bs p q = tt
appends-kept (Some x) None c bs p q = absurd p
appends-kept (Some x) (Some y) None bs p q = absurd q
appends-kept (Some x) (Some y) (Some z) bs p q = q ∙ p

-- ---- the status of what was written out

-- after 0 or 4 it was written out, with the status that there was
pub written-so : (r s : ℕ) (b c : Option (List ℕ)) → ((r ≡ s) × Keeps b c) ⊎ ((r ≡ 3) ⊎ (r ≡ 5)) → (r ≡ 0) ⊎ (r ≡ 4) → (r ≡ s) × Keeps b c
written-so r s b c (inl h) is = h
written-so r s b c (inr (inl h)) (inl is) = absurd (omega arith)
written-so r s b c (inr (inl h)) (inr is) = absurd (omega arith)
written-so r s b c (inr (inr h)) (inl is) = absurd (omega arith)
written-so r s b c (inr (inr h)) (inr is) = absurd (omega arith)

-- it was told why there is no run
pub reported-so : (P : Type 0) (r : ℕ) → (r ≡ 3) ⊎ (r ≡ 5) → (r ≡ 0) ⊎ (r ≡ 4) → P
reported-so P r (inl h) (inl is) = absurd (omega arith)
reported-so P r (inl h) (inr is) = absurd (omega arith)
reported-so P r (inr h) (inl is) = absurd (omega arith)
reported-so P r (inr h) (inr is) = absurd (omega arith)

-- the screen was not refused
accepted-so : (P : Type 0) (r s : ℕ) → r ≡ s → (r ≡ 0) ⊎ (r ≡ 4) → (s ≡ 1) ⊎ P → P
accepted-so P r s same is (inr p) = p
accepted-so P r s same (inl is) (inl one) = absurd (omega arith)
accepted-so P r s same (inr is) (inl one) = absurd (omega arith)

pub of-kept : (check : Bool) (receipts : List Receipt) (IsSuch : Result Report FinishError → Type 0) (a b c : Option (List ℕ)) (s r : ℕ) → r ≡ s → Keeps b c → PrintsOf check receipts IsSuch a b s → PrintsOf check receipts IsSuch a c r
of-kept check receipts IsSuch a b c s r same kept p = (p.0, p.1, appends-kept a b c _ p.2 kept, same ∙ p.3)

pub served-written : (o : ServeOptions) (AreSuch : List Receipt → Type 0) (a b c : Option (List ℕ)) (s r : ℕ) → (s ≡ 1) ⊎ PrintsServed o AreSuch a b s → ((r ≡ s) × Keeps b c) ⊎ ((r ≡ 3) ⊎ (r ≡ 5)) → (r ≡ 0) ⊎ (r ≡ 4) → PrintsServed o AreSuch a c r
served-written o AreSuch a b c s r prints written is =
    let w = written-so r s b c written is in
    let p = accepted-so (PrintsServed o AreSuch a b s) r s w.0 is prints in
    record { receipts = p.receipts; such = p.such; drawn = p.drawn; printed = of-kept o.check p.receipts _ a b c s r w.0 w.1 p.printed }

pub loop-written : (o : ServeOptions) (forever : Bool) (a b c : Option (List ℕ)) (s r : ℕ) → (s ≡ 1) ⊎ PrintsLoop o forever a b s → ((r ≡ s) × Keeps b c) ⊎ ((r ≡ 3) ⊎ (r ≡ 5)) → (r ≡ 0) ⊎ (r ≡ 4) → PrintsLoop o forever a c r
loop-written o forever a b c s r prints written is =
    let w = written-so r s b c written is in
    let p = accepted-so (PrintsLoop o forever a b s) r s w.0 is prints in
    record {
      events = p.events;
      served = p.served;
      held = p.held;
      serves = p.serves;
      told = p.told;
      account = p.account;
      receipts = p.receipts;
      all = p.all;
      sorted = p.sorted;
      printed = of-kept o.check p.receipts _ a b c s r w.0 w.1 p.printed;
    }

pub own-written : (viewers : ℕ) (IsSuch : Result Report FinishError → Type 0) (a b c : Option (List ℕ)) (s r : ℕ) → PrintsOwn viewers IsSuch a b s → ((r ≡ s) × Keeps b c) ⊎ ((r ≡ 3) ⊎ (r ≡ 5)) → (r ≡ 0) ⊎ (r ≡ 4) → PrintsOwn viewers IsSuch a c r
own-written viewers IsSuch a b c s r p written is = let w = written-so r s b c written is in (p.0, p.1, p.2, p.3, appends-kept a b c _ p.4 w.1, w.0 ∙ p.5)

-- ---- a result that is handed on

pub same-ok : {E : Type 0} (r : Result ℕ E) (P : Type 0) → P → IfOk r (λ s. (r ≡ Ok s) × P)
same-ok (Ok s) P p = (refl, p)
same-ok (Err e) P p = tt

pub through : {E F : Type 0} (ended : Result ℕ E) (r : Result ℕ F) (P Q : ℕ → Type 0) (Same : Type 0) → IfOk r (λ s. (ended ≡ Ok s) × Same) → IfOk ended P → ((s : ℕ) → Same → P s → Q s) → IfOk r Q
through {E} ended (Ok s) P Q Same h p step = step s h.1 (subst (λ (x : Result ℕ E). IfOk x P) h.0 p)
through ended (Err e) P Q Same h p step = tt

-- ---- the lines of viewers, and a judgement's

-- a judgement's status is one of serving
pub widened : {E : Type 0} (r : Result ℕ E) → IfOk r (λ s. (s ≡ 0) ⊎ (s ≡ 4)) → IfOk r (λ s. (s ≡ 0) ⊎ ((s ≡ 1) ⊎ (s ≡ 4)))
widened (Ok s) (inl h) = inl h
widened (Ok s) (inr h) = inr (inr h)
widened (Err e) h = tt

-- a refused screen's is another
pub refused-or : {E : Type 0} (P : ℕ → Type 0) (r : Result ℕ E) → IfOk r (λ s. s ≡ 1) → IfOk r (λ s. (s ≡ 1) ⊎ P s)
refused-or P (Ok s) h = inl h
refused-or P (Err e) h = tt

pub prints-judged : {E : Type 0} (check : Bool) (receipts : List Receipt) (IsSuch : Result Report FinishError → Type 0) (a b c : Option (List ℕ)) (r : Result ℕ E) → check ≡ true → Appends a b (ends_text receipts) → IfOk r (Tells IsSuch b c) → IfOk r (PrintsOf check receipts IsSuch a c)
prints-judged check receipts IsSuch a b c (Ok s) told_so ends t = (Some t.0, (told_so, t.1), Appends-trans a b c (ends_text receipts) (judgement_line t.0) ends t.2, t.3)
prints-judged check receipts IsSuch a b c (Err e) told_so ends t = tt

pub prints-told : {E : Type 0} (check : Bool) (receipts : List Receipt) (IsSuch : Result Report FinishError → Type 0) (a b c : Option (List ℕ)) (r : Result ℕ E) (judgement : Result Report FinishError)
    → check ≡ true → Appends a b (ends_text receipts) → IsSuch judgement → OnOk r (Appends b c (judgement_line judgement)) → IfOk r (λ s. s ≡ judgement_status judgement) → IfOk r (PrintsOf check receipts IsSuch a c)
prints-told check receipts IsSuch a b c (Ok s) judgement told_so ends such printed is = (Some judgement, (told_so, such), Appends-trans a b c (ends_text receipts) (judgement_line judgement) ends printed, is)
prints-told check receipts IsSuch a b c (Err e) judgement told_so ends such printed is = tt

pub prints-ends : (check : Bool) (receipts : List Receipt) (IsSuch : Result Report FinishError → Type 0) (a b : Option (List ℕ)) → check ≡ false → Appends a b (ends_text receipts) → PrintsOf check receipts IsSuch a b 0
prints-ends check receipts IsSuch a b fine ends = (None, fine, ends, refl)

-- the last line is a judgement's
last-judged : (check : Bool) (receipts : List Receipt) (IsSuch : Result Report FinishError → Type 0) (a b : Option (List ℕ)) (s : ℕ) (judgement : Option (Result Report FinishError))
    → check ≡ true → IsJudged check IsSuch judgement → Appends a b (run_text receipts judgement) → s ≡ run_status judgement → Judged a b s
last-judged check receipts IsSuch a b s None told_so fine printed is = absurd (cc)
last-judged check receipts IsSuch a b s (Some judgement) told_so such printed is = (ends_text receipts, judgement, printed, is)

pub prints-judge : (check : Bool) (receipts : List Receipt) (IsSuch : Result Report FinishError → Type 0) (a b : Option (List ℕ)) (s : ℕ) → check ≡ true → PrintsOf check receipts IsSuch a b s → Judged a b s
prints-judge check receipts IsSuch a b s told_so p = last-judged check receipts IsSuch a b s p.0 told_so p.1 p.2 p.3

pub loop-judged : (o : ServeOptions) (forever : Bool) (a b : Option (List ℕ)) (s : ℕ) → o.check ≡ true → PrintsLoop o forever a b s → Judged a b s
loop-judged o forever a b s told_so p = prints-judge o.check p.receipts _ a b s told_so p.printed

pub served-judged : (o : ServeOptions) (AreSuch : List Receipt → Type 0) (a b : Option (List ℕ)) (s : ℕ) → o.check ≡ true → PrintsServed o AreSuch a b s → Judged a b s
served-judged o AreSuch a b s told_so p = prints-judge o.check p.receipts _ a b s told_so p.printed

pub judged-of : {E : Type 0} (check : Bool) (receipts : List Receipt) (IsSuch : Result Report FinishError → Type 0) (a b : Option (List ℕ)) (r : Result ℕ E) → check ≡ true → IfOk r (PrintsOf check receipts IsSuch a b) → IfOk r (λ s. (s ≡ 1) ⊎ Judged a b s)
judged-of check receipts IsSuch a b (Ok s) told_so p = inr (last-judged check receipts IsSuch a b s p.0 told_so p.1 p.2 p.3)
judged-of check receipts IsSuch a b (Err e) told_so p = tt

pub judged-or : {E : Type 0} (a b : Option (List ℕ)) (r : Result ℕ E) → IfOk r (Judged a b) → IfOk r (λ s. (s ≡ 1) ⊎ Judged a b s)
judged-or a b (Ok s) h = inr h
judged-or a b (Err e) h = tt

-- ---- servers with threads

pub prints-served : {E : Type 0} (o : ServeOptions) (AreSuch : List Receipt → Type 0) (receipts : List Receipt) (c : Config) (drawn : Option (List Event)) (a b : Option (List ℕ)) (r : Result ℕ E)
    → c ≡ config_by o → AreSuch receipts → IfOk r (PrintsOf o.check receipts (Finishes c drawn receipts) a b) → IfOk r (λ s. (s ≡ 1) ⊎ PrintsServed o AreSuch a b s)
prints-served o AreSuch receipts c drawn a b (Ok s) is such p =
    inr (record { receipts = receipts; such = such; drawn = drawn; printed = subst (λ (c : Config). PrintsOf o.check receipts (Finishes c drawn receipts) a b s) is p })
prints-served o AreSuch receipts c drawn a b (Err e) is such p = tt

-- those of a server without end, and of another one
pub given-none : {E : Type 0} (viewers : ℕ) (forever may_stop : Bool) (r : Result (Vec Receipt) E) → forever ≡ true → IfOk r (λ v. v.items ≡ []) → IfOk r (λ v. AreGiven viewers forever may_stop v.items)
given-none viewers forever may_stop r told_so h = subst (λ (f : Bool). IfOk r (λ v. AreGiven viewers f may_stop v.items)) (sym told_so) h

pub given-some : {E : Type 0} (viewers : ℕ) (forever may_stop : Bool) (r : Result (Vec Receipt) E) → forever ≡ false → IfOk r (λ v. AreServed viewers may_stop v.items) → IfOk r (λ v. AreGiven viewers forever may_stop v.items)
given-some viewers forever may_stop r fine h = subst (λ (f : Bool). IfOk r (λ v. AreGiven viewers f may_stop v.items)) (sym fine) h

-- what `serve_on` says of these
pub all-served : (o : ServeOptions) (a b : Option (List ℕ)) (s : ℕ) → PrintsServed o (AreGiven o.viewers false false) a b s → PrintsServed o (AreNumbered o.viewers) a b s
all-served o a b s p = record { receipts = p.receipts; such = p.such; drawn = p.drawn; printed = p.printed }

-- ---- viewers of one's own

pub shows-more : (v : ℕ) (xs : List Bool) (x : Bool) → shows_text v (xs ++ x ∷ []) ≡ shows_text v xs ++ show_line (length xs + v) x
shows-more v [] x = let same : v ≡ 0 + v = omega arith in append-nil (show_line v x) ∙ ap (λ n. show_line n x) same
shows-more v (y ∷ ys) x =
    let same : length ys + (v + 1) ≡ suc (length ys) + v = omega arith in
    ap (λ l. show_line v y ++ l) (shows-more (v + 1) ys x ∙ ap (λ n. shows_text (v + 1) ys ++ show_line n x) same)
    ∙ sym (append_assoc (show_line v y) (shows_text (v + 1) ys) (show_line (suc (length ys) + v) x))

pub prints-own : (viewers : ℕ) (shows : List Bool) (IsSuch IsWide : Result Report FinishError → Type 0) (a b c : Option (List ℕ)) (judged s : ℕ) → length shows ≡ viewers → ((j : Result Report FinishError) → IsSuch j → IsWide j)
    → Appends a b (shows_text 1 shows) → Tells IsSuch b c judged → s ≡ status_where shows judged → PrintsOwn viewers IsWide a c s
prints-own viewers shows IsSuch IsWide a b c judged s many wide first t is =
    (shows, t.0, many, wide t.0 t.1, Appends-trans a b c (shows_text 1 shows) (judgement_line t.0) first t.2, is ∙ ap (status_where shows) t.3)

-- a judgement that was printed
pub tells-such : (IsSuch : Result Report FinishError → Type 0) (b c : Option (List ℕ)) (j : Result Report FinishError) (s : ℕ) → IsSuch j → Appends b c (judgement_line j) → s ≡ judgement_status j → Tells IsSuch b c s
tells-such IsSuch b c j s such printed is = (j, such, printed, is)
