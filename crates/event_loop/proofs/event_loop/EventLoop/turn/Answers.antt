use Rattle.std.proofs.Common.{◌∙◌}
use Rattle.std.proofs.lemmas.Result.{err_from_is_err_and}
use Rattle.event_loop.proofs.Steps.{tells-all, tells-then, tells-ended, tells-from}
use Rattle.event_loop.proofs.event_loop.EventLoop.turn.Goals as goal

pub returns-in_err-turn : goal.returns-in_err-turn
returns-in_err-turn g c =
    let stands = g.A.Application.stands in
    let error = err_from_is_err_and c.from_residual.result c.from_residual.ensures.1 in
    record {
      served = tells-ended stands c.args.application.now c.turn.new.application c.turn.result c.from_residual.result error.0 _ _ error.1
          (tells-from stands c.args.application.now c.turn.new.application c.turn.result c.args.self.now c.set_time.new.self c.turn.new.self (c.set_time.ensures ∙ (c.self.view_is ∙ c.milliseconds-milliseconds.ensures.same)) c.turn.ensures.served);
    }

pub returns : goal.returns
returns g c =
    let stands = g.A.Application.stands in
    record {
      served = tells-then stands c.args.application.now c.turn.new.application c.part.new.application c.part.result _ _ _
          (tells-all stands c.args.application.now c.turn.new.application c.turn.result c.in_ok-turn.field-0 _ _ c.in_ok-turn.was
          (tells-from stands c.args.application.now c.turn.new.application c.turn.result c.args.self.now c.set_time.new.self c.turn.new.self (c.set_time.ensures ∙ (c.self.view_is ∙ c.milliseconds-milliseconds.ensures.same)) c.turn.ensures.served))
          c.part.ensures.served;
    }
