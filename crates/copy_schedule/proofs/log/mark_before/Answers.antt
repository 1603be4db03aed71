use Rattle.std.proofs.Common.{◌∙◌, sym, ap, subst, Option, List, [], ◌∷◌, ◌++◌}
use Rattle.std.specs.List.{All}
use Rattle.std.specs.Option.{option_to_list}
use Rattle.copy_schedule.specs.declared.LogEntry.{LogEntry}
use Rattle.copy_schedule.specs.declared.LogEntry.TheVariants.{Mark}
use Rattle.copy_schedule.specs.Log.{IsCutEntry}
use Rattle.copy_schedule.specs.LogLemmas.{joins_mark, comes_before, front_is_cut, cut_append}
use Rattle.copy_schedule.proofs.log.mark_before.Goals as goal

pub returns-in_ok-push-in-Some-Mark-clause-same : goal.returns-in_ok-push-in-Some-Mark-clause-same
returns-in_ok-push-in-Some-Mark-clause-same c uses m =
    joins_mark uses c.pop.new.self.items c.args.out.now.items c.push-in-Some-Mark.new.self.items c.in-Some-Mark.next c.args.region.now c.in_ok-both-in-Some-Mark.both m
    (c.pop.ensures.items ∙ ap (λ (r : Option LogEntry). c.pop.new.self.items ++ option_to_list r) c.in-Some-Mark.is ∙ ap (λ (e : LogEntry). c.pop.new.self.items ++ e ∷ []) c.in-Some-Mark.field-0-is)
    c.in_ok-both-in-Some-Mark.ensures c.in_ok-push-in-Some-Mark.ensures.items

pub returns-in_ok-push-in-Some-Mark-clause-cut : goal.returns-in_ok-push-in-Some-Mark-clause-cut
returns-in_ok-push-in-Some-Mark-clause-cut c w h all =
    subst (All (IsCutEntry w h)) (sym c.in_ok-push-in-Some-Mark.ensures.items) (cut_append w h c.pop.new.self.items _ (front_is_cut w h c.pop.new.self.items (option_to_list c.pop.result) (subst (All (IsCutEntry w h)) c.pop.ensures.items all)) tt)

pub returns-in_ok-push-in-Some-2-clause-same : goal.returns-in_ok-push-in-Some-2-clause-same
returns-in_ok-push-in-Some-2-clause-same c uses m =
    comes_before uses c.args.out.now.items c.push-in-Some-2.new.self.items c.args.region.now c.in_ok-try_clone-in-Some.field-0 m
    (c.in_ok-push-in-Some-2.ensures.items ∙ ap (λ (xs : List LogEntry). xs ++ Mark c.in_ok-try_clone-in-Some.field-0 ∷ []) (c.in_ok-push-in-Some.ensures.items ∙ sym (c.pop.ensures.items ∙ ap (λ (r : Option LogEntry). c.pop.new.self.items ++ option_to_list r) c.in-Some.is)))
    c.in_ok-try_clone-in-Some.ensures
