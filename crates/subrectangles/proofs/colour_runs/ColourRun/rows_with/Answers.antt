use Rattle.std.proofs.Common.{◌+◌, ◌-◌, ◌≡◌, inl, inr, ℕ, List, length, map, arith, ap, ◌∙◌, sym}
use Rattle.std.proofs.lemmas.Bool.{cases_lt}
use Rattle.pixel_translate.specs.Pixel.{pixel}
use Rattle.subrectangles.specs.Subrectangles.{row_at, has_run}
use Rattle.subrectangles.specs.Scans.{height_is, rows_count}
use Rattle.subrectangles.specs.Lines.{values_in}
use Rattle.subrectangles.specs.Pixels.{translated_lines}
use Rattle.subrectangles.proofs.RowsAsPixels.{row_map}
use Rattle.subrectangles.proofs.colour_runs.ColourRun.rows_with.Goals as goal

pub returns-then-not-is_in-clause-rows : goal.returns-then-not-is_in-clause-rows
returns-then-not-is_in-clause-rows c =
    let f = pixel c.args.self.now.table.now in
    let r = c.args.self.now.run in
    let w : ℕ = c.args.colours.now.width in
    let h : ℕ = c.args.colours.now.height in
    let rows : List (List ℕ) = translated_lines c.args.self.now.table.now c.args.colours.now in
    let e : c.args.top + (c.loop-y.y - c.args.top) ≡ c.loop-y.y = omega arith in
    let n : length rows ≡ h = rows_count w h (map f (values_in c.args.colours.now)) in
    let row : row_at rows c.loop-y.y ≡ map f c.row.result.now = row_map f w h (values_in c.args.colours.now) c.loop-y.y (omega arith) ∙ ap (map f) (sym c.row.ensures.row) in
    height_is r rows c.args.top (c.loop-y.y - c.args.top) (omega (arith, n)) (λ k le lt. c.loop-y.invariant k le (omega (arith, lt)))
    (λ lt. ap (λ (i : ℕ). has_run r (row_at rows i)) e ∙ ap (has_run r) row ∙ sym c.is_in.ensures ∙ c.if-not-is_in.true)

pub loop-y-preserved : goal.loop-y-preserved
loop-y-preserved c k le lt =
    elim (cases_lt k c.loop-y.y) [
      | inl before ↦ c.loop-y.invariant k le before
      | inr after ↦
          let f = pixel c.args.self.now.table.now in
          let rows : List (List ℕ) = translated_lines c.args.self.now.table.now c.args.colours.now in
          let here : k ≡ c.loop-y.y = omega arith in
          let row : row_at rows c.loop-y.y ≡ map f c.row.result.now =
          row_map f c.args.colours.now.width c.args.colours.now.height (values_in c.args.colours.now) c.loop-y.y (omega arith) ∙ ap (map f) (sym c.row.ensures.row) in
          ap (λ (i : ℕ). has_run c.args.self.now.run (row_at rows i)) here ∙ ap (has_run c.args.self.now.run) row ∙ sym c.is_in.ensures ∙ c.if-not-is_in.false
    ]

pub returns-clause-rows : goal.returns-clause-rows
returns-clause-rows c =
    let rows : List (List ℕ) = translated_lines c.args.self.now.table.now c.args.colours.now in
    let n : length rows ≡ c.args.colours.now.height = rows_count c.args.colours.now.width c.args.colours.now.height (map (pixel c.args.self.now.table.now) (values_in c.args.colours.now)) in
    height_is c.args.self.now.run rows c.args.top (c.args.colours.now.height - c.args.top) (omega (arith, n)) (λ k le lt. c.loop-y.invariant k le (omega (arith, lt))) (λ lt. absurd (omega (arith, n, lt)))
