use Rattle.std.proofs.Common.{◌≡◌, ◌+◌, drop, Err, sym, ap, ◌∙◌, inl, inr}
use Rattle.std.proofs.lemmas.Result.{err_from_is_err_and}
use Rattle.receipts.specs.Checking.{sent_of, all_sent, told_before}
use Rattle.receipts.proofs.Reading.{left_is}
use Rattle.receipts.proofs.Joined.{joined, joined-one, joined-err}
use Rattle.receipts.proofs.checking.all_sent.Goals as goal

pub returns-in_err-sent : goal.returns-in_err-sent
returns-in_err-sent c =
    let config = c.args.config.now in let history = c.args.history.now in let r = c.receipt-item.result in
    let left = left_is c.args.receipts.now c.loop-receipt.receipt-index r c.loop-receipt-test.true c.receipt-item.is in
    let first : sent_of config history r ≡ Err c.in_err-sent.field-0.0 → all_sent config history c.args.receipts.now ≡ Err c.in_err-sent.field-0.0 = λ h.
    sym c.loop-receipt.invariant ∙ ap (λ rs. joined c.loop-receipt.viewers (all_sent config history rs)) left ∙ joined-err c.loop-receipt.viewers r.viewer _ _ _ h in
    let error = err_from_is_err_and c.from_residual.result c.from_residual.ensures.1 in
    rw (error.1, error.2) (elim c.in_err-sent.ensures [ inl h ↦ inl (first h) | inr h ↦ inr h ])

pub loop-receipt-preserved : goal.loop-receipt-preserved
loop-receipt-preserved c =
    let config = c.args.config.now in let history = c.args.history.now in let r = c.receipt-item.result in let viewers = c.loop-receipt.viewers in
    let left = left_is c.args.receipts.now c.loop-receipt.receipt-index r c.loop-receipt-test.true c.receipt-item.is in
    let rest = all_sent config history (drop (c.loop-receipt.receipt-index + 1) c.args.receipts.now) in
    ap (λ told. joined told rest) c.in_ok-push.ensures.ok
    ∙ sym (joined-one viewers r.viewer c.in_ok-sent.sent rest)
    ∙ ap (λ one. joined viewers (told_before r.viewer one rest)) (sym c.in_ok-sent.ensures)
    ∙ ap (λ rs. joined viewers (all_sent config history rs)) (sym left)
    ∙ c.loop-receipt.invariant
