use Rattle.std.proofs.Common.{◌∙◌, sym, ap, subst, refl, rules}
use Rattle.std.specs.Prelude.{FitsSigned}
use Rattle.std.specs.Int.{w32}
use Rattle.std.proofs.lemmas.Int.{to_z-of_z}
use Rattle.region.specs.Region.{covers}
use Rattle.region.specs.Places.{by_place}
use Rattle.copy_schedule.specs.Marks.{Marks, marked}
use Rattle.copy_schedule.specs.MarkSets.{mark_in_sets, AreMarkSets, with_sets}
use Rattle.copy_schedule.specs.MarkSetLemmas.{Shows, marked_are}
use Rattle.copy_schedule.proofs.marks.Marks.prepare_mark.Goals as goal

pub prepared-requires : goal.prepared-requires
prepared-requires c =
    let f = c.self.inside in
    let m : Marks = record { width = f.width; height = f.height; marks = by_place f.width f.height (mark_in_sets f.sets); offset = (f.offset_x, f.offset_y); asked = by_place f.width f.height (covers f.asked.list) } in
    let shows : Shows m f.sets f.asked.list = record { screen = c.self.invariant; marks = refl; places = refl } in
    subst (λ (n : Marks). AreMarkSets n.width n.height c.in_ok-sets.sets) c.self.view_is (c.in_ok-sets.ensures.sets shows.screen.sets)

pub returns : goal.returns
returns c =
    let f = c.self.inside in
    let m : Marks = record { width = f.width; height = f.height; marks = by_place f.width f.height (mark_in_sets f.sets); offset = (f.offset_x, f.offset_y); asked = by_place f.width f.height (covers f.asked.list) } in
    let shows : Shows m f.sets f.asked.list = record { screen = c.self.invariant; marks = refl; places = refl } in
    let set = covers c.args.region.now.list in
    let sets = c.in_ok-sets.sets in
    let x : FitsSigned w32 f.offset_x = search rules in
    let y : FitsSigned w32 f.offset_y = search rules in
    (simp to_z-of_z at c.in_ok-prepared.ensures)
    ∙ ap {B = Marks} (λ (n : Marks). record (with_sets sets n) { offset = (f.offset_x, f.offset_y) }) (sym c.self.view_is)
    ∙ marked_are m f.sets f.asked.list shows set sets c.in_ok-sets.ensures.marks
    ∙ ap (marked set) c.self.view_is
