use Rattle.update_sender.proofs.Refused.{same-error, refuses-too, due-told}
use Rattle.update_sender.proofs.brush.Brush.draw.Goals as goal

pub returns-in_default-clause-refused : goal.returns-in_default-clause-refused
returns-in_default-clause-refused g c = (_, _, due-told _ _ _ c.refusal_of.ensures)

pub returns-in_err-draw-clause-refused : goal.returns-in_err-draw-clause-refused
returns-in_err-draw-clause-refused g c =
    let e = c.in_err-draw.field-0.0 in
    let r = c.from_residual.result in
    (_, _, refuses-too _ r e _ (same-error r e c.from_residual.ensures.1) c.in_err-draw.ensures.call)

pub returns-clause-refused : goal.returns-clause-refused
returns-clause-refused g c = (_, _, c.in_ok-draw.ensures.call)
