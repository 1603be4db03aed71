use Rattle.std.proofs.Common.{sym, subst, ◌∙◌}
use Rattle.std.specs.List.{All}
use Rattle.std.proofs.lemmas.List.Elements.{All-take}
use Rattle.region.specs.CopyPlaceLemmas.{rects-on-screen}
use Rattle.region.specs.Places.{IsOnScreen, longest_side}
use Rattle.copy_schedule.proofs.chosen.send_owed.Goals as goal

pub left_after-requires-clause-pixels : goal.left_after-requires-clause-pixels
left_after-requires-clause-pixels c = subst (All (IsOnScreen longest_side longest_side)) (sym (c.deref-2.ensures.value ∙ c.in_ok-pixels.ensures.rects))
    (All-take (IsOnScreen longest_side longest_side) c.args.limit c.args.owed.now.list (rects-on-screen longest_side longest_side c.args.owed.now.list c.first_pixels.ensures.canonical c.requires))
