use Rattle.std.proofs.Common.{◌∙◌, ap, refl, replicate, ◌*◌, cond, false}
use Rattle.std.specs.Prelude.{pos}
use Rattle.region.specs.Region.{covers}
use Rattle.copy_schedule.specs.declared.Mark.TheVariants.{Owed, Clean}
use Rattle.region.specs.Places.{by_place}
use Rattle.copy_schedule.specs.Marks.{Marks, with_marks}
use Rattle.copy_schedule.specs.MarkSets.{mark_in_sets}
use Rattle.copy_schedule.specs.MarkSetLemmas.{Shows, none_asked, only_owed}
use Rattle.copy_schedule.proofs.marks.Marks.owing_only.Goals as goal

pub returns : goal.returns
returns c =
    let f = c.self.inside in
    let m : Marks = record { width = f.width; height = f.height; marks = by_place f.width f.height (mark_in_sets f.sets); offset = (f.offset_x, f.offset_y); asked = by_place f.width f.height (covers f.asked.list) } in
    let shows : Shows m f.sets f.asked.list = record { screen = c.self.invariant; marks = refl; places = refl } in
    ap {B = Marks} (λ marks. record { width = f.width; height = f.height; marks = marks; offset = (pos 0, pos 0); asked = by_place f.width f.height (covers c.new-2.result.list) }) (only_owed f.width f.height c.args.owed c.new.result c.new.ensures)
    ∙ ap {B = Marks} (λ asked. record { width = f.width; height = f.height; marks = by_place f.width f.height (λ x y. cond (covers c.args.owed.list x y) Owed Clean); offset = (pos 0, pos 0); asked = asked }) (none_asked f.width f.height c.new-2.result.list c.new-2.ensures)
    ∙ ap {B = Marks} (λ (n : Marks). record (with_marks n (λ x y. cond (covers c.args.owed.list x y) Owed Clean)) { offset = (pos 0, pos 0); asked = replicate (n.width * n.height) false }) c.self.view_is
