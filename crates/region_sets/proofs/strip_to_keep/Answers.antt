use Rattle.std.proofs.Common.{◌≡◌, ◌∙◌, ap, to_z, of_z, inl}
use Rattle.std.specs.Prelude.{FitsSigned}
use Rattle.std.specs.Int.{w32}
use Rattle.std.proofs.lemmas.Int.{to_z-of_z}
use Rattle.region_sets.specs.Strips.{next_strip}
use Rattle.region_sets.proofs.StayLemmas.{from_firsts, no_rests}
use Rattle.region_sets.proofs.strip_to_keep.Goals as goal

pub returns-else-rest_stays-clause-none : goal.returns-else-rest_stays-clause-none
returns-else-rest_stays-clause-none c = λ is.
    let fits : FitsSigned w32 c.args.y = c.ranges.y in
    let y : to_z w32 (of_z w32 c.args.y) ≡ c.args.y = simp to_z-of_z in
    inl (no_rests c.args.keep c.args.y c.args.bands.now.above c.args.bands.now.below c.args.other.now.bands
    (from_firsts c.args.y c.args.bands.now.below c.args.other.now.bands c.first_rows.result c.first_rows-else-rest_stays.result c.next_strip.result _ c.first_rows.ensures c.first_rows-else-rest_stays.ensures
    (c.next_strip.ensures ∙ ap (λ n. next_strip n c.first_rows.result c.first_rows-else-rest_stays.result) y) is))
