use Rattle.std.proofs.Common.{◌∙◌, ap, ◌++◌, ◌∷◌, [], ℕ, List, Option}
use Rattle.client_list.specs.WalkLemmas.{read_step}
use Rattle.updates.specs.declared.notices.Notice.{Notice}
use Rattle.viewer_list.specs.declared.lagging.Lagging.{Lagging}
use Rattle.viewer_list.specs.Viewers.{text_for}
use Rattle.viewer_list.proofs.notices.texts.Goals as goal

pub loop-position-preserved : goal.loop-position-preserved
loop-position-preserved c = record {
  position = c.next-position.ensures.position;
  made =
      c.in_ok-push.ensures.items
      ∙ ap (λ (n : Option Notice). c.loop-position.notices.items ++ n ∷ []) (c.in_ok-text_for.ensures ∙ ap (λ (t : List ℕ). text_for t c.at.result.now.viewer) c.in_ok-shared.ensures)
      ∙ read_step (λ (l : Lagging). text_for c.args.text.now l.viewer) c.args.viewers.now c.loop-position.notices.items c.loop-position.position c.next-position.result c.in-Some.at c.at.result.now c.loop-position.invariant.made c.in-Some.is c.at.ensures c.next-position.ensures.passed;
}
