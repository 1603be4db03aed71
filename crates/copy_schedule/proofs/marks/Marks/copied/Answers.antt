use Rattle.std.proofs.Common.{subst, refl}
use Rattle.copy_schedule.specs.Marks.{Marks}
use Rattle.copy_schedule.specs.MarkSetLemmas.{Shows, copied_listed}
use Rattle.copy_schedule.proofs.marks.Marks.copied.Goals as goal

pub returns : goal.returns
returns c =
    let f = c.self.inside in
    let shows : Shows c.args.self.now f.sets f.asked.list = subst (λ (m : Marks). Shows m f.sets f.asked.list) c.self.view_is (record { screen = c.self.invariant; marks = refl; places = refl }) in
    copied_listed c.args.self.now f.sets f.asked.list shows c.list_is_canonical.ensures
