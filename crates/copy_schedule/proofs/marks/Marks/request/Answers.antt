use Rattle.std.proofs.Common.{◌≡◌, ◌∙◌, sym, ap, refl, ◌&&◌, rules}
use Rattle.std.specs.Prelude.{FitsSigned, ℤ, pos, ◌-ℤ◌}
use Rattle.std.specs.Int.{w32}
use Rattle.std.proofs.lemmas.Int.{to_z-of_z}
use Rattle.region.specs.Region.{covers, in_rect, on_screen}
use Rattle.region.specs.Places.{by_place}
use Rattle.copy_schedule.specs.Marks.{Marks, asked_for, forgotten, requested}
use Rattle.copy_schedule.specs.MarkSets.{mark_in_sets}
use Rattle.copy_schedule.specs.SetLemmas.{lies_on_part, lies_either, unmoved}
use Rattle.copy_schedule.specs.MarkSetLemmas.{Shows, forgotten_are, asked_are}
use Rattle.copy_schedule.proofs.marks.Marks.request.Goals as goal

pub invariant_of-self : goal.invariant_of-self
invariant_of-self c =
    let f = c.self.inside in
    let m : Marks = record { width = f.width; height = f.height; marks = by_place f.width f.height (mark_in_sets f.sets); offset = (f.offset_x, f.offset_y); asked = by_place f.width f.height (covers f.asked.list) } in
    let shows : Shows m f.sets f.asked.list = record { screen = c.self.invariant; marks = refl; places = refl } in
    record {
      columns = c.self.invariant.columns;
      rows = c.self.invariant.rows;
      sets = c.self.invariant.sets;
      asked_on = lies_either m.width m.height f.asked.list c.part_of-part.result.list c.in_ok-asked.asked.list c.self.invariant.asked_on (lies_on_part m.width m.height c.part_of-part.result.list (λ x y. in_rect c.args.rect (x -ℤ pos 0) (y -ℤ pos 0)) c.part_of-part.ensures) c.in_ok-asked.ensures;
    }

pub returns-then-incremental-clause-ok : goal.returns-then-incremental-clause-ok
returns-then-incremental-clause-ok c =
    let f = c.self.inside in
    let m : Marks = record { width = f.width; height = f.height; marks = by_place f.width f.height (mark_in_sets f.sets); offset = (f.offset_x, f.offset_y); asked = by_place f.width f.height (covers f.asked.list) } in
    let shows : Shows m f.sets f.asked.list = record { screen = c.self.invariant; marks = refl; places = refl } in
    asked_are m f.sets f.asked.list shows (in_rect c.args.rect) c.part_of-part.result.list c.in_ok-asked.asked.list (λ x y. c.part_of-part.ensures x y ∙ unmoved c.args.rect m.width m.height x y) c.in_ok-asked.ensures
    ∙ ap (asked_for (in_rect c.args.rect)) c.self.view_is ∙ ap (λ b. requested (in_rect c.args.rect) b c.args.self.now) (sym c.if-incremental.true)

pub invariant_of-self-2 : goal.invariant_of-self-2
invariant_of-self-2 c =
    let f = c.self.inside in
    let m : Marks = record { width = f.width; height = f.height; marks = by_place f.width f.height (mark_in_sets f.sets); offset = (f.offset_x, f.offset_y); asked = by_place f.width f.height (covers f.asked.list) } in
    let shows : Shows m f.sets f.asked.list = record { screen = c.self.invariant; marks = refl; places = refl } in
    let on_part = lies_on_part m.width m.height c.part_of-part.result.list (λ x y. in_rect c.args.rect (x -ℤ pos 0) (y -ℤ pos 0)) c.part_of-part.ensures in
    record {
      columns = c.self.invariant.columns;
      rows = c.self.invariant.rows;
      sets = c.in_ok-sets.ensures.sets m.width m.height shows.screen.sets on_part;
      asked_on = lies_either m.width m.height f.asked.list c.part_of-part.result.list c.in_ok-asked.asked.list c.self.invariant.asked_on on_part c.in_ok-asked.ensures;
    }

pub returns-clause-ok : goal.returns-clause-ok
returns-clause-ok c =
    let f = c.self.inside in
    let m : Marks = record { width = f.width; height = f.height; marks = by_place f.width f.height (mark_in_sets f.sets); offset = (f.offset_x, f.offset_y); asked = by_place f.width f.height (covers f.asked.list) } in
    let shows : Shows m f.sets f.asked.list = record { screen = c.self.invariant; marks = refl; places = refl } in
    let x : FitsSigned w32 f.offset_x = search rules in
    let y : FitsSigned w32 f.offset_y = search rules in
    let is_part : (a b : ℤ) → covers c.part_of-part.result.list a b ≡ (in_rect c.args.rect a b && on_screen m.width m.height a b) = λ a b. c.part_of-part.ensures a b ∙ unmoved c.args.rect m.width m.height a b in
    ap {B = Marks} (λ (n : Marks). record n { asked = by_place f.width f.height (covers c.in_ok-asked.asked.list) }) (forgotten_are m f.sets f.asked.list shows (in_rect c.args.rect) c.part_of-part.result.list c.part_of-awaiting.result.list c.in_ok-sets.sets is_part (λ a b. simp to_z-of_z at (c.part_of-awaiting.ensures a b)) c.in_ok-sets.ensures.marks)
    ∙ ap (forgotten (in_rect c.args.rect)) (asked_are m f.sets f.asked.list shows (in_rect c.args.rect) c.part_of-part.result.list c.in_ok-asked.asked.list is_part c.in_ok-asked.ensures)
    ∙ ap (λ (n : Marks). forgotten (in_rect c.args.rect) (asked_for (in_rect c.args.rect) n)) c.self.view_is ∙ ap (λ b. requested (in_rect c.args.rect) b c.args.self.now) (sym c.if-incremental.false)
