use Rattle.std.proofs.Common.{◌≡◌, List, ◌∙◌, sym, ap, subst, ℤ, cond, true}
use Rattle.std.specs.List.{All}
use Rattle.region.specs.declared.Rect.{Rect}
use Rattle.region.specs.Copies.{InOrder}
use Rattle.region.specs.CopyOrderLemmas.{copies-in-order, in-order-take}
use Rattle.region.specs.Places.{IsOnScreen, source_rect}
use Rattle.copy_schedule.specs.Marks.{after_sending, copies_of, pixels_of, pending, copyable}
use Rattle.copy_schedule.specs.CutLemmas.{copies_on_screen, sources_inside, pixels_on_screen}
use Rattle.copy_schedule.specs.MarkSetLemmas.{owing_only_are}
use Rattle.copy_schedule.proofs.marks.Marks.prepare_cut.Goals as goal

pub returns-clause-after : goal.returns-clause-after
returns-clause-after c =
    let m = c.args.self.now in
    let limit = c.args.limit in
    let sent = c.in_ok-copies.field-0 in
    let is_pending : pending m ≡ true = sym c.pending.ensures ∙ c.if-not-pending.false in
    c.owing_only-marks.ensures
    ∙ owing_only_are m sent.copies.items sent.pixels.items sent.owed.list c.in_ok-copies.ensures.owed
    ∙ ap (λ (rs : List Rect). after_sending rs sent.pixels.items m) c.in_ok-copies.ensures.copies ∙ ap (λ (rs : List Rect). after_sending (copies_of limit m) rs m) c.in_ok-copies.ensures.pixels
    ∙ sym (ap (λ b. cond b (after_sending (copies_of limit m) (pixels_of limit m) m) m) is_pending)

pub returns-clause-inside : goal.returns-clause-inside
returns-clause-inside c =
    let m = c.args.self.now in
    let copies = sym (c.from_vec.ensures ∙ c.in_ok-copies.ensures.copies) in
    record {
      copies = subst (All (IsOnScreen m.width m.height)) copies (copies_on_screen c.args.limit m);
      pixels = subst (All (IsOnScreen m.width m.height)) (sym (c.from_vec-2.ensures ∙ c.in_ok-copies.ensures.pixels)) (pixels_on_screen c.args.limit m);
    }

pub returns-clause-sources : goal.returns-clause-sources
returns-clause-sources c =
    let m = c.args.self.now in
    subst (λ (by : ℤ × ℤ). All (λ r. IsOnScreen m.width m.height (source_rect by r)) c.from_vec.result) (sym c.offset.ensures)
    (subst (λ (rs : List Rect). All (λ r. IsOnScreen m.width m.height (source_rect m.offset r)) rs) (sym (c.from_vec.ensures ∙ c.in_ok-copies.ensures.copies)) (sources_inside c.args.limit m))

pub returns-clause-ordered : goal.returns-clause-ordered
returns-clause-ordered c =
    let m = c.args.self.now in
    subst (λ (by : ℤ × ℤ). InOrder by c.from_vec.result) (sym c.offset.ensures)
    (subst (InOrder m.offset) (sym (c.from_vec.ensures ∙ c.in_ok-copies.ensures.copies)) (in-order-take c.args.limit m.offset _ (copies-in-order m.width m.height (copyable m) m.offset)))
