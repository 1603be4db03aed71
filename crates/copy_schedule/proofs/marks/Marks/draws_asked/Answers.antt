use Rattle.std.proofs.Common.{◌≡◌, ◌∙◌, sym, ap, refl, ◌&&◌, true, false, List, Bool}
use Rattle.region.specs.declared.Rect.{Rect}
use Rattle.region.specs.RegionView.{SharePlace}
use Rattle.region.specs.Region.{covers}
use Rattle.region.specs.Places.{by_place, some_place}
use Rattle.copy_schedule.specs.declared.mark_sets.MarkSets.{MarkSets}
use Rattle.copy_schedule.specs.Marks.{Marks, asked_at}
use Rattle.copy_schedule.specs.MarkSets.{mark_in_sets}
use Rattle.copy_schedule.specs.Log.{draws_asked}
use Rattle.copy_schedule.specs.MarkSetLemmas.{Shows, not_shared}
use Rattle.copy_schedule.specs.DrawnLemmas.{shared_is_asked, unshared_is_not_asked}
use Rattle.copy_schedule.proofs.marks.Marks.draws_asked.Goals as goal

met : (m : Marks) (k : MarkSets) (asked drawn : List Rect) → Shows m k asked → (b : Bool) → (b ≡ true → SharePlace asked drawn) → (SharePlace asked drawn → b ≡ true) → b ≡ some_place m.width m.height (λ x y. asked_at m x y && covers drawn x y)
met m k asked drawn shows true share from = sym (shared_is_asked m k asked drawn shows (share refl))
met m k asked drawn shows false share from = sym (unshared_is_not_asked m k asked drawn shows (not_shared asked drawn false from refl))

pub returns : goal.returns
returns c =
    let f = c.self.inside in
    let m : Marks = record { width = f.width; height = f.height; marks = by_place f.width f.height (mark_in_sets f.sets); offset = (f.offset_x, f.offset_y); asked = by_place f.width f.height (covers f.asked.list) } in
    let shows : Shows m f.sets f.asked.list = record { screen = c.self.invariant; marks = refl; places = refl } in
    met m f.sets f.asked.list c.region.result.now.list shows c.meets.result c.meets.ensures.0 c.meets.ensures.1
    ∙ ap (λ (rs : List Rect). some_place m.width m.height (λ x y. asked_at m x y && covers rs x y)) c.region.ensures
    ∙ ap (λ (n : Marks). draws_asked n c.args.entry.now) c.self.view_is
