use Rattle.std.proofs.Common.{Err}
use Rattle.std.proofs.lemmas.Result.{err_from_is_err_and}
use Rattle.event_loop.specs.declared.event_loop.LoopError.{LoopError}
use Rattle.event_loop.specs.declared.event_loop.LoopError.TheVariants.{Clock}
use Rattle.event_loop.proofs.Steps.{tells-all, tells-ended, tells-any}
use Rattle.event_loop.proofs.event_loop.EventLoop.run_on.Goals as goal

pub returns-in_err-take_turns-clause-served : goal.returns-in_err-take_turns-clause-served
returns-in_err-take_turns-clause-served g c =
    let stands = g.A.Application.stands in
    let error = err_from_is_err_and c.from_residual.result c.from_residual.ensures.1 in
    tells-ended stands c.args.application.now c.take_turns.new.application c.take_turns.result c.from_residual.result error.0 _ _ error.1 c.take_turns.ensures.served

pub returns-clause-served : goal.returns-clause-served
returns-clause-served g c =
    let stands = g.A.Application.stands in
    tells-any stands {X = Unit {0}} {E = LoopError} c.args.application.now c.take_turns.new.application (Err Clock) _ _
    (tells-all stands c.args.application.now c.take_turns.new.application c.take_turns.result c.in_ok-take_turns.field-0 _ _ c.in_ok-take_turns.was c.take_turns.ensures.served)
