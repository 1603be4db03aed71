use Rattle.std.proofs.lemmas.Result.{err_from_is_err_and}
use Rattle.event_loop.proofs.Steps.{tells-all, tells-then, tells-ended}
use Rattle.demo_app.proofs.one_thread.run_to_end.Goals as goal

pub returns-in_err-run : goal.returns-in_err-run
returns-in_err-run g c =
    let error = err_from_is_err_and c.from_residual.result c.from_residual.ensures.1 in
    record { served = tells-ended g.A.Application.stands c.args.application.now c.run.new.application c.run.result c.from_residual.result error.0 _ _ error.1 c.run.ensures.served }

pub returns : goal.returns
returns g c =
    record {
      served = tells-then g.A.Application.stands c.args.application.now c.run.new.application c.let_all_go.new.application c.let_all_go.result _ _ _
          (tells-all g.A.Application.stands c.args.application.now c.run.new.application c.run.result c.in_ok-run.field-0 _ _ c.in_ok-run.was c.run.ensures.served) c.let_all_go.ensures.served;
    }
