use Rattle.std.proofs.Common.{ap, ◌∙◌}
use Rattle.connections.specs.Drawing.{Surface}
use Rattle.connections.specs.Serving.{Serving}
use Rattle.connections.proofs.Everyone.{goes-watched}
use Rattle.connections.proofs.connections.Connections.list_watching.Goals as goal

pub returns : goal.returns
returns g c = record {
  served = goes-watched c.args.self.now c.list_drawn.new.self c.look_at_all.new.self _ c.list_drawn.ensures.same c.list_drawn.ensures.served c.in_ok-list_drawn.ensures.listed
      c.look_at_all.ensures.same c.look_at_all.ensures.served c.look_at_all.ensures.looked c.look_at_all.ensures.others
      (ap (λ (x : Serving). record x { surface = c.settle.new.self }) c.self-2.view_is)
      (ap (λ (x : Surface). x.screen) c.settle.ensures ∙ ap (λ (x : Serving). x.surface.screen) c.self-2.view_is)
      (ap (λ (x : Surface). x.scribed) c.settle.ensures ∙ ap (λ (x : Serving). x.surface.scribed) c.self-2.view_is);
  settled = ap (λ (x : Surface). x.drawn) c.settle.ensures;
}
