use Rattle.std.proofs.Common.{sym, subst}
use Rattle.std.proofs.lemmas.Result.{err_from_is_err_and}
use Rattle.connections.specs.Serving.{Serving}
use Rattle.connections.proofs.Everyone.{TellsAll, tells-all, tells-ended}
use Rattle.connections.proofs.connections.Connections.listen_in_turn.Goals as goal

pub returns-in_err-flooding : goal.returns-in_err-flooding
returns-in_err-flooding g c =
    let error = err_from_is_err_and c.from_residual.result c.from_residual.ensures.1 in
    record { served = tells-ended g.A.Application.stands c.args.application.now c.listen_all.new.application c.listen_all.result c.from_residual.result error.0 _ _ error.1 c.listen_all.ensures.served }

pub returns : goal.returns
returns g c =
    let stands = g.A.Application.stands in
    let before = c.args.application.now in
    record {
      served = subst (λ (s : Serving). TellsAll stands c.args.self.now s before c.listen_all.new.application) (sym c.count_turn.ensures)
          (tells-all stands before c.listen_all.new.application c.listen_all.result c.in_ok-flooding.flooding _ _ c.in_ok-flooding.was c.listen_all.ensures.served);
    }
