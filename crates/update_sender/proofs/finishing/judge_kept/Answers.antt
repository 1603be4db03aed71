use Rattle.std.proofs.Common.{◌≡◌, ap, sym, ◌∙◌, subst}
use Rattle.update_sender.proofs.Finished.{kept-history, judged}
use Rattle.update_sender.proofs.finishing.judge_kept.Goals as goal

pub returns-in-Some-Some : goal.returns-in-Some-Some
returns-in-Some-Some g c =
    judged c.shared.inside.config c.args.shared c.in-Some-Some.drawn.now c.args.brush _ c.args.receipts.items c.judge.result c.shared.view_is (c.in-Some-Some.ensures' ∙ c.brush.view_is) c.deref.ensures.value c.judge.ensures
