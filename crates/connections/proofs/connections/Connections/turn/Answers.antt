use Rattle.std.proofs.Common.{Ok, ap, ◌∙◌}
use Rattle.std.proofs.lemmas.Result.{err_from_is_err_and}
use Rattle.screen.specs.declared.ScreenError.{ScreenError}
use Rattle.connections.specs.Serving.{Serving}
use Rattle.connections.proofs.Everyone.{goes-then, goes-silently, tells-all, tells-then, tells-ended}
use Rattle.connections.proofs.connections.Connections.turn.Goals as goal

pub returns-in_err-flooding-clause-served : goal.returns-in_err-flooding-clause-served
returns-in_err-flooding-clause-served g c =
    let error = err_from_is_err_and c.from_residual.result c.from_residual.ensures.1 in
    tells-ended g.A.Application.stands c.args.application.now c.listen_in_turn.new.application c.listen_in_turn.result c.from_residual.result error.0 _ _ error.1 c.listen_in_turn.ensures.served

pub returns-in_err-list_watching-clause-served : goal.returns-in_err-list_watching-clause-served
returns-in_err-list_watching-clause-served g c =
    let stands = g.A.Application.stands in
    let before = c.args.application.now in
    let after = c.listen_in_turn.new.application in
    let result = c.from_residual-in_err-list_watching.result in
    tells-then stands before after after result _ _ _ (tells-all stands before after c.listen_in_turn.result c.in_ok-flooding.flooding _ _ c.in_ok-flooding.was c.listen_in_turn.ensures.served)
    (goes-silently stands after result _ _ c.list_watching.ensures.served)

pub returns-in_err-list_busy-clause-served : goal.returns-in_err-list_busy-clause-served
returns-in_err-list_busy-clause-served g c =
    let stands = g.A.Application.stands in
    let before = c.args.application.now in
    let after = c.listen_in_turn.new.application in
    let result = c.from_residual-in_err-list_busy.result in
    tells-then stands before after after result _ _ _ (tells-all stands before after c.listen_in_turn.result c.in_ok-flooding.flooding _ _ c.in_ok-flooding.was c.listen_in_turn.ensures.served)
    (goes-silently stands after result _ _ (goes-then _ _ _ (goes-then _ _ _ c.list_watching.ensures.served c.send_all.ensures.served) c.list_busy.ensures.served))

pub returns : goal.returns
returns g c =
    let stands = g.A.Application.stands in
    let before = c.args.application.now in
    let after = c.listen_in_turn.new.application in
    record {
      served = tells-then stands {X = Unit {0}} {E = ScreenError} before after after (Ok tt) _ _ _ (tells-all stands before after c.listen_in_turn.result c.in_ok-flooding.flooding _ _ c.in_ok-flooding.was c.listen_in_turn.ensures.served)
          (goes-silently stands {X = Unit {0}} {E = ScreenError} after (Ok tt) _ _ (goes-then _ _ _ (goes-then _ _ _ c.list_watching.ensures.served c.send_all.ensures.served) c.list_busy.ensures.served));
      settled = ap (λ (x : Serving). x.surface.drawn) c.list_busy.ensures.same ∙ c.send_all.ensures.drawn ∙ c.in_ok-list_watching.ensures.settled;
      left = c.in_ok-list_busy.ensures.left;
    }
