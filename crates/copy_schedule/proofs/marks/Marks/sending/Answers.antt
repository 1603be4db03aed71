use Rattle.std.proofs.Common.{◌≡◌, ◌∙◌, sym, ap, subst, refl, not, ◌||◌, ◌&&◌, rules, take}
use Rattle.std.specs.Prelude.{FitsSigned, ℤ, []}
use Rattle.std.proofs.lemmas.Result.{IfOk-weaker}
use Rattle.std.specs.Int.{w32}
use Rattle.std.specs.List.{All}
use Rattle.std.proofs.lemmas.Int.{to_z-of_z}
use Rattle.region.specs.Region.{covers, order}
use Rattle.region.specs.Places.{by_place, IsOnScreen, longest_side}
use Rattle.copy_schedule.specs.Marks.{Marks, copies_of, pixels_of, mark_at, is_clean}
use Rattle.copy_schedule.specs.MarkSets.{mark_in_sets}
use Rattle.copy_schedule.specs.CutLemmas.{copies_on_screen, pixels_on_screen}
use Rattle.copy_schedule.specs.MarkSetLemmas.{Shows, copies_listed, pixels_listed, left_is, screen_wider}
use Rattle.copy_schedule.specs.SetLemmas.{lies_wider}
use Rattle.copy_schedule.specs.OwedAloneLemmas.{no_copies, owed_pixels, owed_left}
use Rattle.copy_schedule.proofs.marks.Marks.sending.Goals as goal

pub left_after-requires-clause-copies : goal.left_after-requires-clause-copies
left_after-requires-clause-copies c =
    let f = c.self.inside in
    let m : Marks = record { width = f.width; height = f.height; marks = by_place f.width f.height (mark_in_sets f.sets); offset = (f.offset_x, f.offset_y); asked = by_place f.width f.height (covers f.asked.list) } in
    let shows : Shows m f.sets f.asked.list = record { screen = c.self.invariant; marks = refl; places = refl } in
    let x : FitsSigned w32 f.offset_x = search rules in
    let y : FitsSigned w32 f.offset_y = search rules in
    let copies : c.in_ok-copies.copies.items ≡ copies_of c.args.limit m = (simp to_z-of_z at c.in_ok-copies.ensures.rects) ∙ ap (λ rs. take c.args.limit (order f.offset_x f.offset_y rs)) (copies_listed m f.sets f.asked.list shows c.in_ok-parts.parts.copies.list c.in_ok-copies.ensures.canonical (λ a b. simp to_z-of_z at (c.in_ok-parts.ensures.copies a b))) in
    subst (All (IsOnScreen longest_side longest_side)) (sym (c.deref.ensures.value ∙ copies)) (screen_wider m.width m.height (copies_of c.args.limit m) shows.screen.columns shows.screen.rows (copies_on_screen c.args.limit m))

pub left_after-requires-clause-pixels : goal.left_after-requires-clause-pixels
left_after-requires-clause-pixels c =
    let f = c.self.inside in
    let m : Marks = record { width = f.width; height = f.height; marks = by_place f.width f.height (mark_in_sets f.sets); offset = (f.offset_x, f.offset_y); asked = by_place f.width f.height (covers f.asked.list) } in
    let shows : Shows m f.sets f.asked.list = record { screen = c.self.invariant; marks = refl; places = refl } in
    let x : FitsSigned w32 f.offset_x = search rules in
    let y : FitsSigned w32 f.offset_y = search rules in
    let pixels : c.in_ok-pixels.pixels.items ≡ pixels_of c.args.limit m = c.in_ok-pixels.ensures.rects ∙ ap (take c.args.limit) (pixels_listed m f.sets f.asked.list shows c.in_ok-parts.parts.copies.list c.in_ok-parts.parts.pixels.list c.in_ok-pixels.ensures.canonical (λ a b. simp to_z-of_z at (c.in_ok-parts.ensures.copies a b)) c.in_ok-parts.ensures.pixels) in
    subst (All (IsOnScreen longest_side longest_side)) (sym (c.deref-2.ensures.value ∙ pixels)) (screen_wider m.width m.height (pixels_of c.args.limit m) shows.screen.columns shows.screen.rows (pixels_on_screen c.args.limit m))

pub returns-clause-copies : goal.returns-clause-copies
returns-clause-copies c =
    let f = c.self.inside in
    let m : Marks = record { width = f.width; height = f.height; marks = by_place f.width f.height (mark_in_sets f.sets); offset = (f.offset_x, f.offset_y); asked = by_place f.width f.height (covers f.asked.list) } in
    let shows : Shows m f.sets f.asked.list = record { screen = c.self.invariant; marks = refl; places = refl } in
    let x : FitsSigned w32 f.offset_x = search rules in
    let y : FitsSigned w32 f.offset_y = search rules in
    let copies : c.in_ok-copies.copies.items ≡ copies_of c.args.limit m = (simp to_z-of_z at c.in_ok-copies.ensures.rects) ∙ ap (λ rs. take c.args.limit (order f.offset_x f.offset_y rs)) (copies_listed m f.sets f.asked.list shows c.in_ok-parts.parts.copies.list c.in_ok-copies.ensures.canonical (λ a b. simp to_z-of_z at (c.in_ok-parts.ensures.copies a b))) in
    copies ∙ ap (copies_of c.args.limit) c.self.view_is

pub returns-clause-pixels : goal.returns-clause-pixels
returns-clause-pixels c =
    let f = c.self.inside in
    let m : Marks = record { width = f.width; height = f.height; marks = by_place f.width f.height (mark_in_sets f.sets); offset = (f.offset_x, f.offset_y); asked = by_place f.width f.height (covers f.asked.list) } in
    let shows : Shows m f.sets f.asked.list = record { screen = c.self.invariant; marks = refl; places = refl } in
    let x : FitsSigned w32 f.offset_x = search rules in
    let y : FitsSigned w32 f.offset_y = search rules in
    let pixels : c.in_ok-pixels.pixels.items ≡ pixels_of c.args.limit m = c.in_ok-pixels.ensures.rects ∙ ap (take c.args.limit) (pixels_listed m f.sets f.asked.list shows c.in_ok-parts.parts.copies.list c.in_ok-parts.parts.pixels.list c.in_ok-pixels.ensures.canonical (λ a b. simp to_z-of_z at (c.in_ok-parts.ensures.copies a b)) c.in_ok-parts.ensures.pixels) in
    pixels ∙ ap (pixels_of c.args.limit) c.self.view_is

pub returns-clause-owed : goal.returns-clause-owed
returns-clause-owed c = λ a b.
    let f = c.self.inside in
    let m : Marks = record { width = f.width; height = f.height; marks = by_place f.width f.height (mark_in_sets f.sets); offset = (f.offset_x, f.offset_y); asked = by_place f.width f.height (covers f.asked.list) } in
    let shows : Shows m f.sets f.asked.list = record { screen = c.self.invariant; marks = refl; places = refl } in
    left_is m f.sets f.asked.list shows c.in_ok-parts.parts.unclean.list c.in_ok-owed.owed.list c.in_ok-copies.copies.items c.in_ok-pixels.pixels.items c.in_ok-parts.ensures.unclean (λ x y.
    c.in_ok-owed.ensures x y
    ∙ ap (λ rs. covers c.in_ok-parts.parts.unclean.list x y && not (covers rs x y || covers c.deref-2.result.now x y)) c.deref.ensures.value
    ∙ ap (λ rs. covers c.in_ok-parts.parts.unclean.list x y && not (covers c.in_ok-copies.copies.items x y || covers rs x y)) c.deref-2.ensures.value) a b
    ∙ ap (λ (n : Marks). not (is_clean (mark_at n a b)) && not (covers c.in_ok-copies.copies.items a b || covers c.in_ok-pixels.pixels.items a b)) c.self.view_is

pub send_owed-requires : goal.send_owed-requires
send_owed-requires c = lies_wider c.self.inside.width c.self.inside.height c.self.inside.sets.owed.list c.self.invariant.columns c.self.invariant.rows c.self.invariant.sets.owed_on

pub returns-then-sends_owed_alone-clause-copies : goal.returns-then-sends_owed_alone-clause-copies
returns-then-sends_owed_alone-clause-copies c =
    let f = c.self.inside in
    let m : Marks = record { width = f.width; height = f.height; marks = by_place f.width f.height (mark_in_sets f.sets); offset = (f.offset_x, f.offset_y); asked = by_place f.width f.height (covers f.asked.list) } in
    let shows : Shows m f.sets f.asked.list = record { screen = c.self.invariant; marks = refl; places = refl } in
    let none = c.sends_owed_alone.ensures.copied c.if-sends_owed_alone.true in
    IfOk-weaker c.send_owed.result (λ s. s.copies.items ≡ []) (λ s. s.copies.items ≡ copies_of c.args.limit c.args.self.now)
    (λ s is. is ∙ no_copies m f.sets f.asked.list shows none c.args.limit ∙ ap (copies_of c.args.limit) c.self.view_is) c.send_owed.ensures.copies

pub returns-then-sends_owed_alone-clause-pixels : goal.returns-then-sends_owed_alone-clause-pixels
returns-then-sends_owed_alone-clause-pixels c =
    let f = c.self.inside in
    let m : Marks = record { width = f.width; height = f.height; marks = by_place f.width f.height (mark_in_sets f.sets); offset = (f.offset_x, f.offset_y); asked = by_place f.width f.height (covers f.asked.list) } in
    let shows : Shows m f.sets f.asked.list = record { screen = c.self.invariant; marks = refl; places = refl } in
    let none = c.sends_owed_alone.ensures.copied c.if-sends_owed_alone.true in
    IfOk-weaker c.send_owed.result (λ s. s.pixels.items ≡ take c.args.limit f.sets.owed.list) (λ s. s.pixels.items ≡ pixels_of c.args.limit c.args.self.now)
    (λ s is. is ∙ owed_pixels m f.sets f.asked.list shows none c.send_owed.ensures.canonical (c.sends_owed_alone.ensures.asked c.if-sends_owed_alone.true) c.args.limit ∙ ap (pixels_of c.args.limit) c.self.view_is) c.send_owed.ensures.pixels

pub returns-then-sends_owed_alone-clause-owed : goal.returns-then-sends_owed_alone-clause-owed
returns-then-sends_owed_alone-clause-owed c =
    let f = c.self.inside in
    let m : Marks = record { width = f.width; height = f.height; marks = by_place f.width f.height (mark_in_sets f.sets); offset = (f.offset_x, f.offset_y); asked = by_place f.width f.height (covers f.asked.list) } in
    let shows : Shows m f.sets f.asked.list = record { screen = c.self.invariant; marks = refl; places = refl } in
    let none = c.sends_owed_alone.ensures.copied c.if-sends_owed_alone.true in
    IfOk-weaker c.send_owed.result (λ s. (x y : ℤ) → covers s.owed.list x y ≡ (covers f.sets.owed.list x y && not (covers s.copies.items x y || covers s.pixels.items x y)))
    (λ s. (x y : ℤ) → covers s.owed.list x y ≡ (not (is_clean (mark_at c.args.self.now x y)) && not (covers s.copies.items x y || covers s.pixels.items x y)))
    (λ s is x y. owed_left m f.sets f.asked.list shows none s.owed.list s.copies.items s.pixels.items is x y
    ∙ ap (λ (n : Marks). not (is_clean (mark_at n x y)) && not (covers s.copies.items x y || covers s.pixels.items x y)) c.self.view_is) c.send_owed.ensures.left
