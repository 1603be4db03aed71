use Rattle.region_sets.proofs.EndLemmas.{bottom_mended, bottom_stays}
use Rattle.region_sets.proofs.ends.mend_bottom.Goals as goal

pub join_seam-requires-clause-below : goal.join_seam-requires-clause-below
join_seam-requires-clause-below c = bottom_stays c.args.bands.now c.requires.band c.requires.left c.requires.changed (c.none_left.ensures.no c.if-none_left.false)

pub returns-then-none_left : goal.returns-then-none_left
returns-then-none_left c =
    let all = bottom_mended c.args.bands.now c.remove_first.new.self c.requires.above c.requires.band c.requires.left c.requires.changed (c.none_left.ensures.yes c.if-none_left.true) c.remove_first.ensures in
    record { are_bands = all.0; has = all.1; row = all.2; spare = all.3 }
