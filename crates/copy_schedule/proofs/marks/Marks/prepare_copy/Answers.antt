use Rattle.std.proofs.Common.{◌≡◌, ◌∙◌, sym, ap, subst, refl, cond, not, ◌||◌, ◌&&◌, to_z, of_z}
use Rattle.std.specs.Prelude.{FitsSigned, ℤ, ◌+ℤ◌, ◌-ℤ◌}
use Rattle.std.specs.Int.{w32}
use Rattle.std.proofs.lemmas.Int.{to_z-of_z}
use Rattle.region.specs.Region.{covers, on_screen}
use Rattle.copy_schedule.specs.declared.Mark.TheVariants.{Owed}
use Rattle.region.specs.Places.{by_place, same_offset, longest_side}
use Rattle.copy_schedule.specs.Marks.{Marks, copied_by, lost_to, moved_marks, IsCutTo, is_copied}
use Rattle.copy_schedule.specs.MarkSets.{mark_in_sets, AreMarkSets, with_sets}
use Rattle.copy_schedule.specs.SetLemmas.{cut_lies, cut_wider, wider}
use Rattle.copy_schedule.specs.MarkSetLemmas.{Shows, sets_wider, shows_new, lost_are, moved_are}
use Rattle.copy_schedule.proofs.marks.Marks.prepare_copy.Goals as goal

pub losing-requires-clause-drawn : goal.losing-requires-clause-drawn
losing-requires-clause-drawn c = λ x y at.
    let f = c.self.inside in
    let m : Marks = record { width = f.width; height = f.height; marks = by_place f.width f.height (mark_in_sets f.sets); offset = (f.offset_x, f.offset_y); asked = by_place f.width f.height (covers f.asked.list) } in
    let shows : Shows m f.sets f.asked.list = record { screen = c.self.invariant; marks = refl; places = refl } in
    let dx : FitsSigned w32 c.args.dx = c.ranges.dx in
    let dy : FitsSigned w32 c.args.dy = c.ranges.dy in
    let cut : IsCutTo m.width m.height (c.args.dx, c.args.dy) c.args.region.now.list = subst (λ (n : Marks). IsCutTo n.width n.height (c.args.dx, c.args.dy) c.args.region.now.list) (sym c.self.view_is) c.requires.cut in
    let wide : IsCutTo longest_side longest_side (c.args.dx, c.args.dy) c.args.region.now.list = cut_wider m.width m.height (c.args.dx, c.args.dy) c.args.region.now.list shows.screen.columns shows.screen.rows cut in
    ap (λ a. on_screen longest_side longest_side x y && on_screen longest_side longest_side (x -ℤ a) (y -ℤ to_z w32 (of_z w32 c.args.dy))) (to_z-of_z w32 c.args.dx dx)
    ∙ ap (λ b. on_screen longest_side longest_side x y && on_screen longest_side longest_side (x -ℤ c.args.dx) (y -ℤ b)) (to_z-of_z w32 c.args.dy dy) ∙ wide x y at

pub moving-requires : goal.moving-requires
moving-requires c =
    let f = c.self.inside in
    let m : Marks = record { width = f.width; height = f.height; marks = by_place f.width f.height (mark_in_sets f.sets); offset = (f.offset_x, f.offset_y); asked = by_place f.width f.height (covers f.asked.list) } in
    let shows : Shows m f.sets f.asked.list = record { screen = c.self.invariant; marks = refl; places = refl } in
    record { sets = c.in_ok-left.ensures.sets longest_side longest_side (sets_wider m.width m.height f.sets shows.screen.columns shows.screen.rows shows.screen.sets) }

pub prepared-requires : goal.prepared-requires
prepared-requires c =
    let f = c.self.inside in
    let m : Marks = record { width = f.width; height = f.height; marks = by_place f.width f.height (mark_in_sets f.sets); offset = (f.offset_x, f.offset_y); asked = by_place f.width f.height (covers f.asked.list) } in
    let shows : Shows m f.sets f.asked.list = record { screen = c.self.invariant; marks = refl; places = refl } in
    let cut : IsCutTo m.width m.height (c.args.dx, c.args.dy) c.args.region.now.list = subst (λ (n : Marks). IsCutTo n.width n.height (c.args.dx, c.args.dy) c.args.region.now.list) (sym c.self.view_is) c.requires.cut in
    subst (λ (n : Marks). AreMarkSets n.width n.height c.in_ok-sets.sets) c.self.view_is (c.in_ok-sets.ensures.sets m.width m.height (c.in_ok-left.ensures.sets m.width m.height shows.screen.sets) (cut_lies m.width m.height (c.args.dx, c.args.dy) c.args.region.now.list cut))

pub returns : goal.returns
returns c =
    let f = c.self.inside in
    let m : Marks = record { width = f.width; height = f.height; marks = by_place f.width f.height (mark_in_sets f.sets); offset = (f.offset_x, f.offset_y); asked = by_place f.width f.height (covers f.asked.list) } in
    let shows : Shows m f.sets f.asked.list = record { screen = c.self.invariant; marks = refl; places = refl } in
    let dx : FitsSigned w32 c.args.dx = c.ranges.dx in
    let dy : FitsSigned w32 c.args.dy = c.ranges.dy in
    let by : ℤ × ℤ = (c.args.dx, c.args.dy) in
    let set = covers c.args.region.now.list in
    let left = c.in_ok-left.left in
    let sets = c.in_ok-sets.sets in
    let stays = c.has_offset-stays.result in
    let is_stays : stays ≡ same_offset m.offset by = (simp to_z-of_z at c.has_offset-stays.ensures) ∙ ap (λ (n : Marks). same_offset n.offset by) (sym c.self.view_is) in
    let lost : with_sets left m ≡ lost_to set by m = lost_are m f.sets f.asked.list shows set by left (λ x y.
    (simp to_z-of_z at (c.in_ok-left.ensures.marks x y)) ∙ ap (λ b. cond (is_copied (mark_in_sets f.sets x y) && (not b || set (x +ℤ c.args.dx) (y +ℤ c.args.dy))) Owed (mark_in_sets f.sets x y)) is_stays) in
    (simp to_z-of_z at c.in_ok-prepared.ensures)
    ∙ ap {B = Marks} (λ (n : Marks). record (with_sets sets n) { offset = by }) (sym c.self.view_is)
    ∙ moved_are (with_sets left m) left f.asked.list (shows_new m f.sets f.asked.list shows left (c.in_ok-left.ensures.sets m.width m.height shows.screen.sets)) set by sets (λ x y on.
    simp to_z-of_z at (c.in_ok-sets.ensures.marks x y (wider m.width m.height x y shows.screen.columns shows.screen.rows on)))
    ∙ ap (moved_marks set by) lost
    ∙ ap (λ (n : Marks). moved_marks set by (lost_to set by n)) c.self.view_is
    ∙ ap (λ b. copied_by set by b c.args.self.now) (sym c.if-not-uses_copyrect.false)
