use Rattle.std.proofs.Common.{◌≡◌, ◌+◌, ◌*◌, ℕ, List, arith, ap, ◌∙◌}
use Rattle.subrectangles.specs.Subrectangles.{times, row_at}
use Rattle.subrectangles.specs.Pixels.{pixel_lines, pixels_in}
use Rattle.subrectangles.proofs.RowsAsPixels.{next_rows}
use Rattle.subrectangles.specs.Counts.{rows_alike, times_few}
use Rattle.subrectangles.proofs.background.times_until.Goals as goal

pub loop-y-preserved : goal.loop-y-preserved
loop-y-preserved c =
    let ps : List ℕ = pixels_in c.args.pixels.now in
    let w : ℕ = c.args.pixels.now.colours.width in
    let one = rows_alike w c.args.pixels.now.colours.height ps c.loop-y.y 1 c.args.pixel (omega arith) (λ k lt. ap (row_at (pixel_lines c.args.pixels.now)) (let e : c.loop-y.y + k ≡ c.loop-y.y = omega (arith, lt) in e)) in
    let here : c.times-count.result ≡ times c.args.pixel (row_at (pixel_lines c.args.pixels.now) c.loop-y.y) = c.times-count.ensures ∙ ap (times c.args.pixel) c.row.ensures.row in
    let few = times_few c.args.pixel c.row.result.now in
    let next : (c.loop-y.y + 1) * w ≡ c.loop-y.y * w + w = omega arith in
    record {
      within = omega arith;
      counted = omega (arith, c.loop-y.invariant.counted, here, one);
      rows = next_rows c.args.pixels.now c.loop-y.y c.go_on.new.rows c.go_on.ensures;
      small = omega (arith, c.loop-y.invariant.small, c.times-count.ensures, few, c.row.ensures.len, next);
    }
