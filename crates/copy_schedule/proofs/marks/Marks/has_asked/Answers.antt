use Rattle.std.proofs.Common.{◌∙◌, ap}
use Rattle.copy_schedule.specs.Marks.{has_asked}
use Rattle.copy_schedule.specs.LogLemmas.{asked_by_list}
use Rattle.copy_schedule.proofs.marks.Marks.has_asked.Goals as goal

pub returns : goal.returns
returns c =
    let f = c.self.inside in
    asked_by_list f.width f.height f.asked.list c.is_empty.result c.list_is_canonical.ensures c.self.invariant.asked_on c.is_empty.ensures.0 c.is_empty.ensures.1 ∙ ap has_asked c.self.view_is
