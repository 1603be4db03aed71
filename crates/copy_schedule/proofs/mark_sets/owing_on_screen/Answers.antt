use Rattle.std.proofs.Common.{Result, Ok, Err, IfOk, refl}
use Rattle.region.specs.Region.{covers}
use Rattle.copy_schedule.specs.SetLemmas.{lies_on_part}
use Rattle.copy_schedule.proofs.mark_sets.owing_on_screen.Goals as goal

weaker : {A E : Type 0} (r : Result A E) (P Q : A → Type 0) → ((a : A) → P a → Q a) → IfOk r P → IfOk r Q
weaker (Ok a) P Q f h = f a h
weaker (Err e) P Q f h = tt

pub returns-then-fits-clause-sets : goal.returns-then-fits-clause-sets
returns-then-fits-clause-sets c = weaker c.owing.result _ _ (λ k each is. each c.args.width c.args.height is (c.if-fits.ensures refl)) c.owing.ensures.sets

pub returns-clause-sets : goal.returns-clause-sets
returns-clause-sets c = λ is. c.in_ok-left.ensures.sets c.args.width c.args.height is (lies_on_part c.args.width c.args.height c.in_ok-part.part.list (covers c.args.set.now.list) c.in_ok-part.ensures)
