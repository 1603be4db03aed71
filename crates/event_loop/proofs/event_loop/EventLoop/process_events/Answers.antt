use Rattle.std.proofs.Common.{Ok}
use Rattle.std.proofs.lemmas.Result.{err_from_is_err_and}
use Rattle.event_loop.specs.declared.event_loop.LoopError.{LoopError}
use Rattle.event_loop.proofs.Steps.{on-then, tells-silently, tells-all, tells-then, tells-ended}
use Rattle.event_loop.proofs.event_loop.EventLoop.process_events.Goals as goal

pub returns-in_err-now : goal.returns-in_err-now
returns-in_err-now g c = record { served = tells-silently g.A.Application.stands c.args.application.now c.args.application.now c.from_residual.result _ _ (λ inputs h. h) c.wait.ensures.served }

pub returns-in_err-tell_time : goal.returns-in_err-tell_time
returns-in_err-tell_time g c =
    record { served = tells-silently g.A.Application.stands c.args.application.now c.tell_time.new.application c.from_residual-in_err-tell_time.result _ _ c.tell_time.ensures.stands (on-then _ _ _ c.wait.ensures.served c.tell_time.ensures.served) }

pub returns-in_err-turn : goal.returns-in_err-turn
returns-in_err-turn g c =
    let stands = g.A.Application.stands in
    let result = c.from_residual-in_err-turn.result in
    let error = err_from_is_err_and result c.from_residual-in_err-turn.ensures.1 in
    record {
      served = tells-then stands c.args.application.now c.tell_time.new.application c.turn.new.application result _ _ _
          (tells-silently stands {X = Unit {0}} {E = LoopError} c.args.application.now c.tell_time.new.application (Ok tt) _ _ c.tell_time.ensures.stands (on-then _ _ _ c.wait.ensures.served c.tell_time.ensures.served))
          (tells-ended stands c.tell_time.new.application c.turn.new.application c.turn.result result error.0 _ _ error.1 c.turn.ensures.served);
    }

pub returns : goal.returns
returns g c =
    let stands = g.A.Application.stands in
    record {
      served = tells-then stands c.args.application.now c.turn.new.application c.come_and_go.new.application c.come_and_go.result _ _ _
          (tells-then stands {X = Unit {0}} {E = LoopError} c.args.application.now c.tell_time.new.application c.turn.new.application (Ok tt) _ _ _
          (tells-silently stands {X = Unit {0}} {E = LoopError} c.args.application.now c.tell_time.new.application (Ok tt) _ _ c.tell_time.ensures.stands (on-then _ _ _ c.wait.ensures.served c.tell_time.ensures.served))
          (tells-all stands c.tell_time.new.application c.turn.new.application c.turn.result c.in_ok-turn.field-0 _ _ c.in_ok-turn.was c.turn.ensures.served))
          (tells-silently stands c.turn.new.application c.come_and_go.new.application c.come_and_go.result _ _ c.come_and_go.ensures.stands c.come_and_go.ensures.served);
    }
