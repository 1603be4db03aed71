use Rattle.std.proofs.Common.{sym, ap, ◌∙◌}
use Rattle.held_inputs.specs.Held.{Held}
use Rattle.held_inputs.proofs.Keys.{all-held-in, same-buttons}
use Rattle.held_inputs.proofs.HeldInputs.owed.Goals as goal

pub returns-in-None-clause-none : goal.returns-in-None-clause-none
returns-in-None-clause-none c is =
    let own = c.as_slice.ensures.value ∙ ap (λ (h : Held). h.keys) c.self.view_is in
    let other = c.as_slice-2.ensures.value ∙ ap (λ (h : Held). h.keys) c.held.view_is in
    (all-held-in _ _ _ _ own other (sym c.missing.ensures ∙ c.in-None.is), same-buttons c.args.self.now c.args.held.now (sym c.owed_buttons.ensures ∙ is))
