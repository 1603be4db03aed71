use Rattle.std.proofs.Common.{◌∙◌, subst, ◌≤◌}
use Rattle.region_sets.proofs.EndLemmas.{top_mended, top_stays}
use Rattle.region_sets.proofs.ends.mend_top.Goals as goal

pub join_seam-requires : goal.join_seam-requires
join_seam-requires c =
    let all = top_stays c.args.bands.now c.advance.new.self c.requires.above c.requires.band c.requires.left c.requires.changed (c.none_left.ensures.no c.if-none_left.false) c.advance.ensures in
    record { above = all.0; below = all.1; order = all.2 }

pub returns-then-none_left : goal.returns-then-none_left
returns-then-none_left c =
    let all = top_mended c.args.bands.now c.remove_first.new.self c.requires.above c.requires.band c.requires.left c.requires.changed (c.none_left.ensures.yes c.if-none_left.true) c.remove_first.ensures in
    record { are_bands = all.0; has = all.1; row = all.2; spare = all.3 }

pub returns-else-none_left : goal.returns-else-none_left
returns-else-none_left c =
    let all = top_stays c.args.bands.now c.advance.new.self c.requires.above c.requires.band c.requires.left c.requires.changed (c.none_left.ensures.no c.if-none_left.false) c.advance.ensures in
    record {
      are_bands = c.join_seam.ensures.are_bands;
      has = λ x y. c.join_seam.ensures.has x y ∙ all.3 x y;
      row = c.join_seam.ensures.row ∙ all.4;
      spare = subst (λ n. n ≤ c.join_seam.new.bands.spare) all.5 c.join_seam.ensures.spare;
    }
