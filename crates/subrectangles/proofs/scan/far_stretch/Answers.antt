use Rattle.std.proofs.Common.{◌+◌, ◌-◌, ◌≡◌, ℕ, get_or, length, arith, ap, ◌∙◌, sym}
use Rattle.subrectangles.specs.Scans.{stretch_is}
use Rattle.subrectangles.proofs.scan.far_stretch.Goals as goal

pub returns-then-row-x-clause-same : goal.returns-then-row-x-clause-same
returns-then-row-x-clause-same c =
    let e : c.args.start + (c.loop-x.x - c.args.start) ≡ c.loop-x.x = omega arith in
    stretch_is c.args.row.now c.args.start (c.loop-x.x - c.args.start) (omega arith) (λ k le lt. c.loop-x.invariant k le (omega (arith, lt)))
    (λ lt q. c.if-row-x.true (ap (λ (i : ℕ). get_or c.args.row.now i 0) (sym e) ∙ q))

pub returns-clause-same : goal.returns-clause-same
returns-clause-same c =
    stretch_is c.args.row.now c.args.start (length c.args.row.now - c.args.start) (omega arith) (λ k le lt. c.loop-x.invariant k le (omega (arith, lt))) (λ lt q. absurd (omega (arith, lt)))
