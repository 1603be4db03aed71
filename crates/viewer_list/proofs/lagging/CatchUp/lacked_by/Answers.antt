use Rattle.std.proofs.Common.{◌∙◌, sym, ap, subst, Bool, List, All}
use Rattle.copy_schedule.specs.declared.LogEntry.{LogEntry}
use Rattle.copy_schedule.specs.Log.{logged, IsCutEntry}
use Rattle.viewer_list.specs.Lagging.{waiting}
use Rattle.viewer_list.proofs.lagging.CatchUp.lacked_by.Goals as goal

pub returns-clause-shared : goal.returns-clause-shared
returns-clause-shared c = record {
  same = λ m. ap (λ (u : Bool). logged u c.in_ok-joined_log.field-0.items m) c.uses_copyrect.ensures
      ∙ c.in_ok-joined_log.ensures.same m
      ∙ ap (λ (es : List LogEntry). logged c.args.lagging.now.viewer.uses_copyrect es m) c.lacked.ensures
      ∙ ap (λ (u : Bool). logged u (waiting c.args.log.now c.args.lagging.now) m) (sym c.uses_copyrect.ensures);
  cut = λ w h all. c.in_ok-joined_log.ensures.cut w h (subst (All (IsCutEntry w h)) (sym c.lacked.ensures) all);
}
