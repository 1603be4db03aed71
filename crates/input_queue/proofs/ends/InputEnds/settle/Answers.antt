use Rattle.std.proofs.Common.{◌≡◌, sym, ap, ◌∙◌, subst, ◌++◌, ◌∷◌, []}
use Rattle.held_inputs.specs.Held.{owed}
use Rattle.input_queue.specs.Ends.{Putting, held_by}
use Rattle.input_queue.specs.declared.Full.{Full}
use Rattle.input_queue.proofs.Holding.{settles-then, settles-frame, when-ok, when-err}
use Rattle.input_queue.proofs.ends.InputEnds.settle.Goals as goal

pub put-requires : goal.put-requires
put-requires g c = let i = c.loop.invariant in ap (λ s. s.queue) (settles-frame _ _ _ _ i.1) ∙ c.requires

pub loop-preserved : goal.loop-preserved
loop-preserved g c =
    let i = c.loop.invariant in
    let held = c.args.held.now in
    let is = ap (λ h. owed h held) (ap held_by (ap (λ s. s.accepted) (sym c.seat.view_is)) ∙ sym c.seat.invariant.3) ∙ sym c.owed.ensures.owed ∙ c.in-Some-owed.is in
    (i.0 ++ c.in-Some-owed.input ∷ [], settles-then held i.0 c.in-Some-owed.input _ _ _ i.1 is (when-ok _ _ _ c.put.ensures.accepted c.is_err.ensures.value c.if-is_err.false))

pub returns-in_default-clause-seat : goal.returns-in_default-clause-seat
returns-in_default-clause-seat g c = settles-frame _ _ _ _ c.loop.invariant.1

pub returns-then-is_err-clause-seat : goal.returns-then-is_err-clause-seat
returns-then-is_err-clause-seat g c =
    subst (λ (q : Putting). q ≡ record c.args.seat.now { accepted = q.accepted }) (sym (when-err _ _ (λ (full : Full). full.0 ≡ c.in-Some-owed.input) (c.put.new.seat ≡ c.loop.seat) c.put.ensures.back c.is_err.ensures.value c.if-is_err.true))
    (settles-frame _ _ _ _ c.loop.invariant.1)
