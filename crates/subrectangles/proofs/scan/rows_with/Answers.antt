use Rattle.std.proofs.Common.{◌+◌, ◌-◌, ◌≡◌, ℕ, List, length, arith, ap, ◌∙◌, sym}
use Rattle.subrectangles.specs.Subrectangles.{row_at, has_run}
use Rattle.subrectangles.specs.Scans.{height_is, rows_count}
use Rattle.subrectangles.specs.Lines.{lines_in, values_in}
use Rattle.subrectangles.proofs.scan.rows_with.Goals as goal

pub returns-then-not-has_run-clause-rows : goal.returns-then-not-has_run-clause-rows
returns-then-not-has_run-clause-rows c =
    let e : c.args.top + (c.loop-y.y - c.args.top) ≡ c.loop-y.y = omega arith in
    let rows : List (List ℕ) = lines_in c.args.pixels.now in
    let n : length rows ≡ c.args.pixels.now.height = rows_count c.args.pixels.now.width c.args.pixels.now.height (values_in c.args.pixels.now) in
    height_is c.args.run rows c.args.top (c.loop-y.y - c.args.top) (omega (arith, n)) (λ k le lt. c.loop-y.invariant k le (omega (arith, lt)))
    (λ lt. ap (λ (i : ℕ). has_run c.args.run (row_at rows i)) e ∙ ap (has_run c.args.run) (sym c.row.ensures.row) ∙ sym c.has_run.ensures ∙ c.if-not-has_run.true)

pub returns-clause-rows : goal.returns-clause-rows
returns-clause-rows c =
    let rows : List (List ℕ) = lines_in c.args.pixels.now in
    let n : length rows ≡ c.args.pixels.now.height = rows_count c.args.pixels.now.width c.args.pixels.now.height (values_in c.args.pixels.now) in
    height_is c.args.run rows c.args.top (c.args.pixels.now.height - c.args.top) (omega (arith, n)) (λ k le lt. c.loop-y.invariant k le (omega (arith, lt))) (λ lt. absurd (omega (arith, n, lt)))
