use Rattle.event_loop.proofs.Steps.{on-then}
use Rattle.event_loop.proofs.event_loop.EventLoop.answer_some.Goals as goal

pub returns-in_err-answer-clause-served : goal.returns-in_err-answer-clause-served
returns-in_err-answer-clause-served g c = on-then _ _ _ c.loop.invariant.served c.answer.ensures.served

pub loop-preserved : goal.loop-preserved
loop-preserved g c = record { served = on-then _ _ _ c.loop.invariant.served c.answer.ensures.served; stands = λ inputs h. c.answer.ensures.stands inputs (c.loop.invariant.stands inputs h) }
