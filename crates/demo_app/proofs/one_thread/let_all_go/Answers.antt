use Rattle.std.proofs.Common.{Ok, refl}
use Rattle.std.proofs.lemmas.Result.{err_from_is_err_and}
use Rattle.event_loop.specs.declared.event_loop.LoopError.{LoopError}
use Rattle.event_loop.proofs.Steps.{on-same, tells-silently, tells-all, tells-then, tells-ended}
use Rattle.demo_app.proofs.one_thread.let_all_go.Goals as goal

pub loop-init : goal.loop-init
loop-init g c =
    let before = c.args.application.now in
    tells-silently g.A.Application.stands {X = Unit {0}} {E = LoopError} before before (Ok tt) _ _ (λ told h. h) (on-same _ _ refl)

pub returns-in_err-let_go_and_turn : goal.returns-in_err-let_go_and_turn
returns-in_err-let_go_and_turn g c =
    let error = err_from_is_err_and c.from_residual.result c.from_residual.ensures.1 in
    record {
      served = tells-then g.A.Application.stands c.args.application.now c.loop.application c.let_go_and_turn.new.application c.from_residual.result _ _ _ c.loop.invariant
          (tells-ended g.A.Application.stands c.loop.application c.let_go_and_turn.new.application c.let_go_and_turn.result c.from_residual.result error.0 _ _ error.1 c.let_go_and_turn.ensures.served);
    }

pub loop-preserved : goal.loop-preserved
loop-preserved g c =
    tells-then g.A.Application.stands {X = Unit {0}} {E = LoopError} c.args.application.now c.loop.application c.let_go_and_turn.new.application (Ok tt) _ _ _ c.loop.invariant
    (tells-all g.A.Application.stands c.loop.application c.let_go_and_turn.new.application c.let_go_and_turn.result c.in_ok-let_go_and_turn.field-0 _ _ c.in_ok-let_go_and_turn.was c.let_go_and_turn.ensures.served)
