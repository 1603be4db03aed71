use Rattle.std.proofs.Common.{◌∙◌, ap, refl}
use Rattle.region.specs.Region.{covers}
use Rattle.region.specs.Places.{by_place}
use Rattle.copy_schedule.specs.Marks.{Marks, without_copyrect}
use Rattle.copy_schedule.specs.MarkSets.{mark_in_sets}
use Rattle.copy_schedule.specs.MarkSetLemmas.{Shows, uncopied_are}
use Rattle.copy_schedule.proofs.marks.Marks.no_copyrect.Goals as goal

pub invariant_of-self : goal.invariant_of-self
invariant_of-self c =
    let f = c.self.inside in
    let m : Marks = record { width = f.width; height = f.height; marks = by_place f.width f.height (mark_in_sets f.sets); offset = (f.offset_x, f.offset_y); asked = by_place f.width f.height (covers f.asked.list) } in
    let shows : Shows m f.sets f.asked.list = record { screen = c.self.invariant; marks = refl; places = refl } in
    record { columns = c.self.invariant.columns; rows = c.self.invariant.rows; sets = c.in_ok-sets.ensures.sets m.width m.height shows.screen.sets; asked_on = c.self.invariant.asked_on }

pub returns-clause-ok : goal.returns-clause-ok
returns-clause-ok c =
    let f = c.self.inside in
    let m : Marks = record { width = f.width; height = f.height; marks = by_place f.width f.height (mark_in_sets f.sets); offset = (f.offset_x, f.offset_y); asked = by_place f.width f.height (covers f.asked.list) } in
    let shows : Shows m f.sets f.asked.list = record { screen = c.self.invariant; marks = refl; places = refl } in
    uncopied_are m f.sets f.asked.list shows c.in_ok-sets.sets c.in_ok-sets.ensures.marks ∙ ap without_copyrect c.self.view_is
