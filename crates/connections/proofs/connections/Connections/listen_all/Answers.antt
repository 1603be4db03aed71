use Rattle.std.proofs.Common.{Ok, rules}
use Rattle.std.proofs.lemmas.Result.{err_from_is_err_and}
use Rattle.screen.specs.declared.ScreenError.{ScreenError}
use Rattle.connections.proofs.Everyone.{goes-is, goes-silently, tells-all, tells-then, tells-ended}
use Rattle.connections.proofs.connections.Connections.listen_all.Goals as goal

pub loop-index-init : goal.loop-index-init
loop-index-init g c = goes-silently g.A.Application.stands {X = Unit {0}} {E = ScreenError} c.args.application.now (Ok tt) _ _ (goes-is c.args.self.now _ (first_of (search rules, cc)))

pub returns-in_err-listen_at : goal.returns-in_err-listen_at
returns-in_err-listen_at g c =
    let stands = g.A.Application.stands in
    let error = err_from_is_err_and c.from_residual.result c.from_residual.ensures.1 in
    record {
      served = tells-then stands c.args.application.now c.loop-index.application c.listen_at.new.application c.from_residual.result _ _ _ c.loop-index.invariant
          (tells-ended stands c.loop-index.application c.listen_at.new.application c.listen_at.result c.from_residual.result error.0 _ _ error.1 c.listen_at.ensures.served);
    }

pub loop-index-preserved : goal.loop-index-preserved
loop-index-preserved g c =
    let stands = g.A.Application.stands in
    tells-then stands {X = Unit {0}} {E = ScreenError} c.args.application.now c.loop-index.application c.listen_at.new.application (Ok tt) _ _ _ c.loop-index.invariant
    (tells-all stands c.loop-index.application c.listen_at.new.application c.listen_at.result c.in_ok-listen_at.field-0 _ _ c.in_ok-listen_at.was c.listen_at.ensures.served)
