use Rattle.std.proofs.Common.{[], subst}
use Rattle.screen.specs.declared.Config.{Config}
use Rattle.connections.specs.Serving.{Serves}
use Rattle.event_loop.specs.Sockets.{sockets}
use Rattle.demo_app.proofs.self_test_one_thread.loop_for.Goals as goal

pub returns-in-Ok : goal.returns-in-Ok
returns-in-Ok g c = subst (λ (k : Config). Serves k (sockets k) [] c.in-Ok.served) c.in_ok-config.ensures.own c.in-Ok.ensures.serves
