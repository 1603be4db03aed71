use Rattle.std.proofs.Common.{◌∙◌, List, ℕ, inl, inr, refl, ap, subst}
use Rattle.std.specs.Prelude.{length}
use Rattle.receipts.specs.declared.Ended.TheVariants.{Memory}
use Rattle.update_sender.specs.Ends.{counted}
use Rattle.update_sender.specs.Serving.{IsSent, WritingEnds}
use Rattle.update_sender.proofs.Served.{on_error, gate-shut, broken-unwritten, broken-written, sent-whole}
use Rattle.update_sender.proofs.sender.send_next.Goals as goal

pub returns-in_err-passed : goal.returns-in_err-passed
returns-in_err-passed g c =
    let e = c.in_err-passed.field-0.0 in
    on_error c.from_residual-in_err-passed.result e _ _ c.from_residual-in_err-passed.ensures.1
    (broken-unwritten _ _ _ _ c.in_ok-update.update e c.in_ok-update.ensures.cut.1 (inl (gate-shut _ _ e c.in_err-passed.ensures.ends)))

pub returns-in_err-buffer : goal.returns-in_err-buffer
returns-in_err-buffer g c =
    on_error c.from_residual-in_err-buffer.result Memory _ _ c.from_residual-in_err-buffer.ensures.1
    (broken-unwritten _ _ _ _ c.in_ok-update.update Memory c.in_ok-update.ensures.cut.1 (inr refl))

pub returns-in_err-fill : goal.returns-in_err-fill
returns-in_err-fill g c =
    on_error c.from_residual-in_err-fill.result Memory _ _ c.from_residual-in_err-fill.ensures.1
    (broken-unwritten _ _ _ _ c.in_ok-update.update Memory c.in_ok-update.ensures.cut.1 (inr refl))

pub returns-in_err-passed-2 : goal.returns-in_err-passed-2
returns-in_err-passed-2 g c =
    let e = c.in_err-passed-2.field-0.0 in
    on_error c.from_residual-in_err-passed-2.result e _ _ c.from_residual-in_err-passed-2.ensures.1
    (broken-unwritten _ _ _ _ c.in_ok-update.update e c.in_ok-update.ensures.cut.1 (inl (gate-shut _ _ e c.in_err-passed-2.ensures.ends)))

pub returns-in_err-count : goal.returns-in_err-count
returns-in_err-count g c =
    let e = c.in_err-count.field-0.0 in
    let w = c.in_err-count.ensures.sent in
    let may = c.writing.ensures c.in_ok-passed-2.ensures.through in
    let all = c.fill.ensures.bytes ∙ c.into_stream-stream.ensures in
    on_error c.from_residual-in_err-count.result e _ _ c.from_residual-in_err-count.ensures.1
    (broken-written _ _ _ _ _ _ c.in_ok-update.update e may c.in_ok-update.ensures.cut.1 (w.0, w.1, w.2, subst (λ (l : List ℕ). WritingEnds e w.0 l) all w.3))

pub returns : goal.returns
returns g c =
    let gate = c.args.gate.now in
    let v = c.args.viewer in
    let w = c.in_ok-count.ensures.sent in
    let all = c.fill.ensures.bytes ∙ c.into_stream-stream.ensures in
    let told = subst (g.G.Gate.was_told gate v) (c.in_ok-count.ensures.count ∙ ap (λ (l : List ℕ). counted (length l)) all) c.wrote.ensures in
    sent-whole (IsSent (g.G.Gate.lets_encode gate v) (g.G.Gate.lets_write gate v) (g.G.Gate.was_told gate v)) _ _ _ _ _ c.in_ok-update.update
    (c.in_ok-update.ensures.cut.0, c.encoding.ensures c.in_ok-passed.ensures.through, c.writing.ensures c.in_ok-passed-2.ensures.through, told)
    c.in_ok-update.ensures.cut.1
    (w.0, w.1, w.2, w.3 ∙ all)
