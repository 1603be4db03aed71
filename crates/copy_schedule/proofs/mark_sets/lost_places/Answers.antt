use Rattle.std.proofs.Common.{◌≡◌, ◌∙◌, sym, ap, rules, arith}
use Rattle.std.specs.Prelude.{FitsSigned, ℤ, pos, ◌+ℤ◌, ◌-ℤ◌}
use Rattle.std.specs.Int.{w32}
use Rattle.std.proofs.lemmas.Int.{ints, to_z-of_z}
use Rattle.copy_schedule.specs.SetLemmas.{far_lost, near_lost}
use Rattle.copy_schedule.proofs.mark_sets.lost_places.Goals as goal

pub returns-then-leads_off : goal.returns-then-leads_off
returns-then-leads_off c = far_lost c.args.copied.now.list c.args.drawn.now.list c.new.result.list c.args.offset.0 c.args.offset.1 c.args.stays c.new.ensures (sym c.if-leads_off.ensures) c.if-not-stays.false c.requires.drawn

back : (x d : ℤ) → x -ℤ (pos 0 -ℤ d) ≡ x +ℤ d
back x d = omega (arith, ints)

pub returns : goal.returns
returns c =
    let dx : FitsSigned w32 c.args.offset.0 = search rules in
    let dy : FitsSigned w32 c.args.offset.1 = search rules in
    let ex : FitsSigned w32 c.opposite.result = search rules in
    let ey : FitsSigned w32 c.opposite-2.result = search rules in
    near_lost c.args.copied.now.list c.args.drawn.now.list c.in_ok-sources.sources.list c.in_ok-lost.lost.list c.args.offset.0 c.args.offset.1 _ _ c.args.stays c.if-not-stays.false
    (λ x. ap (λ e. x -ℤ e) (to_z-of_z w32 c.opposite.result ex ∙ (simp to_z-of_z at c.opposite.ensures)) ∙ back x c.args.offset.0)
    (λ y. ap (λ e. y -ℤ e) (to_z-of_z w32 c.opposite-2.result ey ∙ (simp to_z-of_z at c.opposite-2.ensures)) ∙ back y c.args.offset.1)
    c.requires.copied c.in_ok-sources.ensures c.in_ok-lost.ensures
