use Rattle.std.proofs.Common.{sym, refl, ◌∙◌}
use Rattle.screen.specs.declared.History.TheVariants.{NotKept}
use Rattle.c_server.proofs.Turning.{refused-so, unrefused-so}
use Rattle.c_server.proofs.listening.serve_unbound.Goals as goal

pub returns-in-Some-clause-refused : goal.returns-in-Some-clause-refused
returns-in-Some-clause-refused c = refused-so c.args.record_path.now _ _ c.in-Some.refusal (sym (c.config_refusal.ensures NotKept) ∙ c.in-Some.is) refl

pub returns-in-None-clause-refused : goal.returns-in-None-clause-refused
returns-in-None-clause-refused c = unrefused-so c.args.record_path.now _ _ (sym (c.config_refusal.ensures NotKept) ∙ c.in-None.is) c.open_unbound.ensures.err
