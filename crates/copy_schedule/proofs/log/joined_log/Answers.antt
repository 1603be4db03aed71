use Rattle.std.proofs.Common.{subst, sym}
use Rattle.std.specs.List.{All}
use Rattle.std.proofs.lemmas.Result.{IfOk-weaker}
use Rattle.copy_schedule.specs.Log.{IsCutEntry}
use Rattle.copy_schedule.proofs.log.joined_log.Goals as goal

pub returns-clause-cut : goal.returns-clause-cut
returns-clause-cut c = IfOk-weaker c.joined_up_to-2.result _ _
    (λ out cut w h all. cut w h (subst (All (IsCutEntry w h)) (sym c.deref.ensures.value) (c.in_ok-parts.ensures.cut w h all)))
    c.joined_up_to-2.ensures.cut
