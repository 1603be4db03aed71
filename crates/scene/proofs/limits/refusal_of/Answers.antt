use Rattle.std.proofs.Common.{◌≡◌, List, ℕ, ap, ◌∙◌}
use Rattle.scene.specs.Alone.{config_refusal}
use Rattle.scene.proofs.limits.refusal_of.Goals as goal

pub returns : goal.returns
returns c =
    let config = c.args.config.now in
    c.config_refusal.ensures config.history ∙ ap (λ (name : List ℕ). config_refusal (record config { name = name })) c.as_slice-name.ensures
