use Rattle.std.proofs.Common.{rules, ◌≡◌, to_z, of_z, [], ◌∷◌, ◌++◌, ap, sym, ◌∙◌}
use Rattle.std.specs.Prelude.{FitsSigned}
use Rattle.std.specs.Int.{w32}
use Rattle.std.proofs.lemmas.Int.{to_z-of_z}
use Rattle.region_sets.proofs.StayLemmas.{first_there, first_gone, first_joins, first_stays}
use Rattle.region_sets.proofs.keep_first.Goals as goal

pub returns-then-not-keeps : goal.returns-then-not-keeps
returns-then-not-keeps c =
    let all = first_gone c.args.keep c.args.bands.now c.args.rows (first_there c.args.rows c.args.bands.now.below c.requires.first) c.requires.first_left c.requires.below c.requires.are_bands c.requires.ends c.remove_first.new.self (sym c.keeps.ensures ∙ c.if-not-keeps.true) c.remove_first.ensures in
    record { are_bands = all.are_bands; ends = all.ends; has = all.places; spare = all.spare; same = all.same }

pub returns-then-first_goes_on : goal.returns-then-first_goes_on
returns-then-first_goes_on c =
    let fits : FitsSigned w32 c.args.rows.bottom = search rules in
    let bottom : to_z w32 (of_z w32 c.args.rows.bottom) ≡ c.args.rows.bottom = simp to_z-of_z in
    let there = c.first_goes_on.ensures.yes c.if-first_goes_on.true in
    let all = first_joins c.args.keep c.args.bands.now c.args.rows (first_there c.args.rows c.args.bands.now.below c.requires.first) c.requires.first_left c.requires.below c.requires.are_bands c.requires.ends c.stretch.new.self c.remove_first-then-first_goes_on.new.self (sym c.keeps.ensures ∙ c.if-not-keeps.false) there.0 there.1 there.2 there.3 there.4 there.5 there.6 there.7
    (c.stretch.ensures there.0 there.1 there.4 ∙ ap (λ n. record c.args.bands.now { above = there.0 ++ record there.1 { bottom = n } ∷ [] }) bottom) c.remove_first-then-first_goes_on.ensures in
    record { are_bands = all.are_bands; ends = all.ends; has = all.places; spare = all.spare; same = all.same }

pub returns-else-first_goes_on : goal.returns-else-first_goes_on
returns-else-first_goes_on c =
    let all = first_stays c.args.keep c.args.bands.now c.args.rows (first_there c.args.rows c.args.bands.now.below c.requires.first) c.requires.first_left c.requires.below c.requires.are_bands c.requires.ends c.advance.new.self (sym c.keeps.ensures ∙ c.if-not-keeps.false) (c.first_goes_on.ensures.no c.if-first_goes_on.false) c.advance.ensures in
    record { are_bands = all.are_bands; ends = all.ends; has = all.places; spare = all.spare; same = all.same }
