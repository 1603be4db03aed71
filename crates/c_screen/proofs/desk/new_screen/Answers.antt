use Rattle.std.proofs.Common.{rules, refl, sym, ◌∙◌}
use Rattle.screen.specs.declared.History.TheVariants.{NotKept}
use Rattle.c_screen.proofs.Drawing.{refuses-so, refuses-memory}
use Rattle.c_screen.proofs.desk.new_screen.Goals as goal

pub returns-in-Some-clause-refused : goal.returns-in-Some-clause-refused
returns-in-Some-clause-refused c = refuses-so _ _ c.in-Some.refusal (sym (c.config_refusal.ensures NotKept) ∙ c.in-Some.is) refl

pub returns-in_err-from_slice-clause-refused : goal.returns-in_err-from_slice-clause-refused
returns-in_err-from_slice-clause-refused c = refuses-memory _ _ (sym (c.config_refusal.ensures NotKept) ∙ c.in_default.is) (search rules)
