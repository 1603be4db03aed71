use Rattle.std.proofs.Common.{[], ap}
use Rattle.update_sender.proofs.Served.{on_error, hears-a-piece, hears-waiting, reply-ends}
use Rattle.update_sender.specs.Ends.{without_waiting}
use Rattle.update_sender.proofs.opening.open_further.Goals as goal

pub returns-in_err-reply-clause-heard : goal.returns-in_err-reply-clause-heard
returns-in_err-reply-clause-heard g c =
    let e = c.in_err-reply.field-0.0 in
    let r = c.in_err-reply.ensures.sent in
    on_error c.from_residual-in_err-reply.result e _ _ c.from_residual-in_err-reply.ensures.1
    ([], hears-waiting _ _ _ _ _ [] (hears-a-piece _ _ _ _ c.in_ok-answer.ensures) (ap without_waiting c.in_err-reply.ensures.err), reply-ends e _ r.0 _ _ r.2)

pub returns-clause-heard : goal.returns-clause-heard
returns-clause-heard g c = hears-waiting _ _ _ _ _ [] (hears-a-piece _ _ _ _ c.in_ok-answer.ensures) (ap without_waiting c.in_ok-reply.ensures.waiting)
