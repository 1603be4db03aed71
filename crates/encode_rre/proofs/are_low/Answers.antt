use Rattle.std.proofs.Common.{◌≡◌, ℕ, List, ◌+◌, ◌-◌, ◌*◌, get_or, inl, inr, arith, ap}
use Rattle.std.proofs.lemmas.Bool.{cases_lt}
use Rattle.subrectangles.specs.Lines.{values_in}
use Rattle.subrectangles.specs.Apart.{in_rows}
use Rattle.encode_rre.proofs.are_low.Goals as goal

pub loop-y-preserved : goal.loop-y-preserved
loop-y-preserved c k lt =
    let w : ℕ = c.args.colours.now.width in
    let y : ℕ = c.loop-y.y in
    elim (cases_lt k (y * w)) [
      | inl before ↦ c.loop-y.invariant k before
      | inr after ↦
          let next : (y + 1) * w ≡ y * w + w = omega arith in
          let same = in_rows w c.args.colours.now.height (values_in c.args.colours.now) y k (omega arith) lt after in
          let here = ap (λ (r : List ℕ). get_or r (k - y * w) 0) c.row.ensures.row in
          let low = c.greatest.ensures (k - y * w) (omega (arith, next, c.row.ensures.len)) in
          omega (arith, same, here, low, c.if-greatest.false)
    ]
