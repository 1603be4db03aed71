use Rattle.std.proofs.Common.{Ok}
use Rattle.event_loop.specs.declared.event_loop.LoopError.{LoopError}
use Rattle.event_loop.proofs.Steps.{tells-silently, tells-then}
use Rattle.demo_app.proofs.one_thread.let_go_and_turn.Goals as goal

pub returns-in_err-let_go : goal.returns-in_err-let_go
returns-in_err-let_go g c = record { served = tells-silently g.A.Application.stands c.args.application.now c.args.application.now c.from_residual.result _ _ (λ inputs h. h) c.let_go.ensures.served }

pub returns : goal.returns
returns g c =
    record {
      served = tells-then g.A.Application.stands c.args.application.now c.args.application.now c.process_events.new.application c.process_events.result _ _ _
          (tells-silently g.A.Application.stands {X = Unit {0}} {E = LoopError} c.args.application.now c.args.application.now (Ok tt) _ _ (λ inputs h. h) c.let_go.ensures.served) c.process_events.ensures.served;
    }
