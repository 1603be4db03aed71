use Rattle.std.proofs.Common.{refl}
use Rattle.demo_app.proofs.PrintedLemmas.{same-ok}
use Rattle.demo_app.proofs.one_thread.unless_broken.Goals as goal

pub returns-then-not-is_broken : goal.returns-then-not-is_broken
returns-then-not-is_broken g c = same-ok c.args.ended _ refl
