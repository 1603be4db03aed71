use Rattle.std.proofs.Common.{rules, sym, ◌∙◌, inl, inr}
use Rattle.std.specs.Prelude.{FitsSigned, ◌≤ℤ◌}
use Rattle.std.specs.Int.{w32}
use Rattle.std.proofs.lemmas.Int.{to_z-of_z}
use Rattle.region_sets.proofs.StayLemmas.{rests_for, no_first, not_true}
use Rattle.region_sets.proofs.rest_stays.Goals as goal

pub returns-then-is_by : goal.returns-then-is_by
returns-then-is_by c = λ e.
    let y : FitsSigned w32 c.args.y = c.ranges.y in
    let top : FitsSigned w32 c.in-Some-None.rows.top = search rules in
    let low : c.args.y ≤ℤ c.in-Some-None.rows.top = simp to_z-of_z at (c.is_by.ensures c.if-is_by.true) in
    inl (rests_for c.args.keep c.args.y c.args.bands.now.above c.args.bands.now.below c.args.other.now.bands c.in-Some-None.rows c.first_rows.result c.first_rows-2.result c.first_rows.ensures c.in-Some-None.is-0 c.first_rows-2.ensures c.in-Some-None.is-1 low
    (c.first_stays.ensures.kept e) (c.first_stays.ensures.apart e))

pub returns-in-None-Some : goal.returns-in-None-Some
returns-in-None-Some c = λ e. inr (record { over = no_first c.args.bands.now.below (sym c.first_rows.ensures ∙ c.in-None-Some.is-0); out = sym c.keeps.ensures ∙ not_true c.keeps.result e })
