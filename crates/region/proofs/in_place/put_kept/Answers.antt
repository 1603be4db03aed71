use Rattle.std.proofs.Common.{◌≡◌, ◌++◌, ◌∙◌, ap, subst, arith, inr}
use Rattle.region_bands.specs.Bands.{Bands}
use Rattle.region_sets.specs.Sets.{IsKept}
use Rattle.region_sets.specs.GapLemmas.{still_bands}
use Rattle.region.proofs.in_place.put_kept.Goals as goal

pub keep_bands-requires-clause-empty : goal.keep_bands-requires-clause-empty
keep_bands-requires-clause-empty c = ap (λ (u : Bands). u.row) c.move_gap.ensures.moved.same ∙ c.requires.empty

pub keep_bands-requires-clause-first : goal.keep_bands-requires-clause-first
keep_bands-requires-clause-first c = still_bands c.args.bands.now c.move_gap.new.bands c.move_gap.ensures.moved c.requires.first

pub keep_bands-requires-clause-room : goal.keep_bands-requires-clause-room
keep_bands-requires-clause-room c = inr (λ result kept.
    let of_all : IsKept c.args.keep (c.args.bands.now.above ++ c.args.bands.now.below) c.args.other.now.bands result =
    subst (λ l. IsKept c.args.keep l c.args.other.now.bands result) c.move_gap.ensures.moved.all kept in
    let spare : c.move_gap.new.bands.spare ≡ c.args.bands.now.spare = ap (λ (u : Bands). u.spare) c.move_gap.ensures.moved.same in
    omega (arith, spare, c.requires.room result of_all))

pub returns-clause-kept : goal.returns-clause-kept
returns-clause-kept c =
    let new = c.keep_bands.new.bands.above ++ c.keep_bands.new.bands.below in
    subst (λ l. IsKept c.args.keep l c.args.other.now.bands new) c.move_gap.ensures.moved.all c.keep_bands.ensures.kept
