use Rattle.std.proofs.Common.{◌≡◌, ◌∙◌, sym, subst, arith, to_z, of_z}
use Rattle.std.specs.Int.{w32}
use Rattle.std.proofs.lemmas.Int.{ints}
use Rattle.region_sets.specs.Sets.{EndBy}
use Rattle.region_sets.specs.GapLemmas.{gap_there}
use Rattle.region_sets.proofs.gaps.move_before.Goals as goal

pub returns-in-Some-clause-gap : goal.returns-in-Some-clause-gap
returns-in-Some-clause-gap c =
    let same : to_z w32 (of_z w32 c.in-Some.rows.top) ≡ c.in-Some.rows.top = omega (arith, ints) in
    gap_there c.args.keep c.move_to.new.bands.above c.args.other.now.bands c.first_rows.result c.in-Some.rows c.first_rows.ensures c.in-Some.is (sym c.keeps.ensures ∙ c.if-keeps.true)
    (subst (λ n. EndBy n c.move_to.new.bands.above) same c.move_to.ensures.ends)
