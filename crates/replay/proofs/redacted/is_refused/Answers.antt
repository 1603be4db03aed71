use Rattle.std.proofs.Common.{ap, ◌∙◌}
use Rattle.std.specs.Prelude.{is_some}
use Rattle.screen.specs.Alone.{config_refusal}
use Rattle.replay.proofs.redacted.is_refused.Goals as goal

pub returns : goal.returns
returns c =
    c.is_some.ensures ∙ ap is_some (c.config_refusal.ensures c.args.config.now.history ∙ ap (λ n. config_refusal (record c.args.config.now { name = n })) c.as_slice-name.ensures)
