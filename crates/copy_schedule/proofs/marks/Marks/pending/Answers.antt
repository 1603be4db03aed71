use Rattle.std.proofs.Common.{◌≡◌, ◌∙◌, sym, ap, refl, ◌||◌, true, false, List, Bool}
use Rattle.std.proofs.lemmas.Bool.{and_parts}
use Rattle.region.specs.declared.Rect.{Rect}
use Rattle.region.specs.RegionView.{SharePlace}
use Rattle.region.specs.Region.{covers}
use Rattle.copy_schedule.specs.declared.mark_sets.MarkSets.{MarkSets}
use Rattle.region.specs.Places.{by_place}
use Rattle.copy_schedule.specs.Marks.{Marks, pending}
use Rattle.copy_schedule.specs.MarkSets.{mark_in_sets}
use Rattle.copy_schedule.specs.MarkSetLemmas.{Shows, pending_there, pending_nowhere, not_shared}
use Rattle.copy_schedule.proofs.marks.Marks.pending.Goals as goal

pub returns-then-meets : goal.returns-then-meets
returns-then-meets c =
    let f = c.self.inside in
    let m : Marks = record { width = f.width; height = f.height; marks = by_place f.width f.height (mark_in_sets f.sets); offset = (f.offset_x, f.offset_y); asked = by_place f.width f.height (covers f.asked.list) } in
    let shows : Shows m f.sets f.asked.list = record { screen = c.self.invariant; marks = refl; places = refl } in
    let shared = c.meets.ensures.0 c.if-meets.true in
    let parts = and_parts (covers f.asked.list shared.0 shared.1.0) (covers f.sets.owed.list shared.0 shared.1.0) shared.1.1 in
    c.if-meets.true ∙ sym (pending_there m f.sets f.asked.list shows shared.0 shared.1.0 parts.0 (ap (λ t. t || covers f.sets.copied.list shared.0 shared.1.0) parts.1)) ∙ ap pending c.self.view_is

or_true : (b : Bool) → (b || true) ≡ true
or_true true = refl
or_true false = refl

pub returns-else-meets : goal.returns-else-meets
returns-else-meets c =
    let f = c.self.inside in
    let m : Marks = record { width = f.width; height = f.height; marks = by_place f.width f.height (mark_in_sets f.sets); offset = (f.offset_x, f.offset_y); asked = by_place f.width f.height (covers f.asked.list) } in
    let shows : Shows m f.sets f.asked.list = record { screen = c.self.invariant; marks = refl; places = refl } in
    either m f.sets f.asked.list shows c.meets.result c.meets-else-meets.result c.if-meets.false c.meets.ensures.1 c.meets-else-meets.ensures.0 c.meets-else-meets.ensures.1 ∙ ap pending c.self.view_is
  where
    either : (m : Marks) (k : MarkSets) (asked : List Rect) → Shows m k asked → (a b : Bool) → a ≡ false → (SharePlace asked k.owed.list → a ≡ true) → (b ≡ true → SharePlace asked k.copied.list) → (SharePlace asked k.copied.list → b ≡ true) → b ≡ pending m
    either m k asked shows a true is owed copied from =
        let shared = copied refl in
        let parts = and_parts (covers asked shared.0 shared.1.0) (covers k.copied.list shared.0 shared.1.0) shared.1.1 in
        sym (pending_there m k asked shows shared.0 shared.1.0 parts.0 (ap (λ t. covers k.owed.list shared.0 shared.1.0 || t) parts.1 ∙ or_true (covers k.owed.list shared.0 shared.1.0)))
    either m k asked shows a false is owed copied from = sym (pending_nowhere m k asked shows (not_shared asked k.owed.list a owed is) (not_shared asked k.copied.list false from refl))
