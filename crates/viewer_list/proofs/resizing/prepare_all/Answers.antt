use Rattle.std.proofs.Common.{◌∙◌, ap, ◌++◌, ◌∷◌, []}
use Rattle.client_list.specs.WalkLemmas.{read_step}
use Rattle.copy_schedule.specs.Marks.{Marks}
use Rattle.viewer_list.specs.Lagging.{resized_marks}
use Rattle.viewer_list.proofs.resizing.prepare_all.Goals as goal

pub loop-position-preserved : goal.loop-position-preserved
loop-position-preserved c = record {
  position = c.next-position.ensures.position;
  made =
      c.in_ok-push.ensures.items
      ∙ ap (λ (m : Marks). c.loop-position.marks.items ++ m ∷ []) c.in_ok-prepare_resize.ensures
      ∙ read_step (resized_marks c.args.width c.args.height) c.args.viewers.now c.loop-position.marks.items c.loop-position.position c.next-position.result c.in-Some.at c.at.result.now c.loop-position.invariant.made c.in-Some.is c.at.ensures c.next-position.ensures.passed;
}
