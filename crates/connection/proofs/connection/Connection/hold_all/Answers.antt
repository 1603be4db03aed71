use Rattle.std.proofs.Common.{sym, ap, ◌∙◌}
use Rattle.held_inputs.specs.Held.{after, roomy}
use Rattle.connection.specs.Connection.{ViewerConnection}
use Rattle.connection.specs.HoldingLemmas.{held-more}
use Rattle.connection.proofs.connection.Connection.hold_all.Goals as goal

pub loop-input-preserved : goal.loop-input-preserved
loop-input-preserved g c =
    let inv = c.loop-input.invariant in
    let k = c.loop-input.input-index in
    let input = c.input-item.result in
    record {
      same = c.hold-release.ensures.same ∙ ap (λ (x : ViewerConnection). record x { held = c.hold-release.new.self.held }) inv.same;
      held = c.hold-release.ensures.held ∙ ap (λ h. after (roomy h) input) inv.held ∙ sym (held-more c.args.self.now.held c.args.inputs.now k input c.loop-input-test.true (sym c.input-item.is));
    }
