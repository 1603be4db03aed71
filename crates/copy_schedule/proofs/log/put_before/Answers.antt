use Rattle.std.proofs.Common.{◌∙◌, ap, reverse, Result, Ok, Err, OnOk, rules}
use Rattle.std.specs.Prelude.{FitsSigned}
use Rattle.std.specs.Int.{w32}
use Rattle.std.proofs.lemmas.Int.{to_z-of_z}
use Rattle.copy_schedule.specs.Log.{logged}
use Rattle.copy_schedule.specs.LogLemmas.{logged_before, joins_copy}
use Rattle.copy_schedule.proofs.log.put_before.Goals as goal

-- what holds where a call succeeded
weaker : {A E P Q : Type 0} (r : Result A E) → (P → Q) → OnOk r P → OnOk r Q
weaker (Ok a) f h = f h
weaker (Err e) f h = tt

pub returns-then-not-uses_copyrect-clause-cut : goal.returns-then-not-uses_copyrect-clause-cut
returns-then-not-uses_copyrect-clause-cut c = weaker c.mark_before-then-not-uses_copyrect.result (λ sets w h all one. sets w h all) c.mark_before-then-not-uses_copyrect.ensures.cut

pub returns-in-Mark-clause-cut : goal.returns-in-Mark-clause-cut
returns-in-Mark-clause-cut c = weaker c.mark_before.result (λ sets w h all one. sets w h all) c.mark_before.ensures.cut

pub returns-in_ok-push-in-Copy-clause-same : goal.returns-in_ok-push-in-Copy-clause-same
returns-in_ok-push-in-Copy-clause-same c m =
    let dx : FitsSigned w32 c.in-Copy.dx = search rules in
    let dy : FitsSigned w32 c.in-Copy.dy = search rules in
    logged_before c.args.uses_copyrect c.args.out.now.items c.push.new.self.items _ m c.in_ok-push-in-Copy.ensures.items
    ∙ ap (logged c.args.uses_copyrect (reverse c.args.out.now.items))
    (joins_copy c.args.uses_copyrect c.in_ok-region-in-Copy.region c.in-Copy.region _ _ c.in-Copy.dx c.in-Copy.dy c.args.entry.now m
    c.in_ok-region-in-Copy.ensures (to_z-of_z w32 _ dx) (to_z-of_z w32 _ dy) c.in-Copy.is)
