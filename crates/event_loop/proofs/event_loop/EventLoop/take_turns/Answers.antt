use Rattle.std.proofs.Common.{ℕ, Ok, arith, rules}
use Rattle.std.proofs.lemmas.Result.{err_from_is_err_and}
use Rattle.event_loop.specs.declared.event_loop.LoopError.{LoopError}
use Rattle.event_loop.proofs.Steps.{on-same, tells-silently, tells-all, tells-then, tells-ended, tells-any}
use Rattle.event_loop.proofs.event_loop.EventLoop.take_turns.Goals as goal

pub turns-init : goal.turns-init
turns-init g c =
    let before = c.args.application.now in
    record {
      turns = omega arith;
      told = tells-silently g.A.Application.stands {X = Unit {0}} {E = LoopError} before before (Ok tt) _ _ (λ told h. h) (on-same _ _ (first_of (search rules, cc)));
    }

pub returns-in_err-process_events-clause-served : goal.returns-in_err-process_events-clause-served
returns-in_err-process_events-clause-served g c =
    let stands = g.A.Application.stands in
    let error = err_from_is_err_and c.from_residual.result c.from_residual.ensures.1 in
    tells-then stands c.args.application.now c.turns.application c.process_events.new.application c.from_residual.result _ _ _ c.turns.invariant.told
    (tells-ended stands c.turns.application c.process_events.new.application c.process_events.result c.from_residual.result error.0 _ _ error.1 c.process_events.ensures.served)

pub returns-then-is_done-clause-served : goal.returns-then-is_done-clause-served
returns-then-is_done-clause-served g c = tells-any g.A.Application.stands {X = ℕ} {E = LoopError} c.args.application.now c.turns.application (Ok c.turns.turns) _ _ c.turns.invariant.told

pub returns-clause-served : goal.returns-clause-served
returns-clause-served g c = tells-any g.A.Application.stands {X = ℕ} {E = LoopError} c.args.application.now c.turns.application (Ok c.turns.turns) _ _ c.turns.invariant.told

pub turns-preserved : goal.turns-preserved
turns-preserved g c =
    let stands = g.A.Application.stands in
    record {
      turns = omega arith;
      told = tells-then stands {X = Unit {0}} {E = LoopError} c.args.application.now c.turns.application c.process_events.new.application (Ok tt) _ _ _ c.turns.invariant.told
          (tells-all stands c.turns.application c.process_events.new.application c.process_events.result c.in_ok-process_events.field-0 _ _ c.in_ok-process_events.was c.process_events.ensures.served);
    }
