use Rattle.std.proofs.Common.{◌≡◌, ℕ, ◌+◌, ◌-◌, ◌*◌, ◌^◌, ◌≤◌, List, length, arith, ap, sym, subst, ◌∙◌}
use Rattle.std.specs.List.{flat_map, range_with_len}
use Rattle.std.proofs.Math.Nat.{mul-le-mul}
use Rattle.subrectangles.specs.Breaks.{breaks}
use Rattle.subrectangles.specs.Subrectangles.{row_at, subrectangles_in}
use Rattle.subrectangles.specs.Pixels.{pixel_lines, pixels_in}
use Rattle.subrectangles.proofs.Early.{breaks_small, rows_breaks, enough}
use Rattle.subrectangles.proofs.RowsAsPixels.{next_rows}
use Rattle.subrectangles.specs.Scans.{rows_count, fewer_rows}
use Rattle.subrectangles.proofs.breaks.has_too_many.Goals as goal

pub overflow_add-count : goal.overflow_add-count
overflow_add-count c =
    let few = breaks_small c.row-row.result.now c.row-above.result.now (length c.row-row.result.now) in
    let area : c.loop-y.y * c.args.pixels.now.colours.width ≤ 2 ^ 16 * 2 ^ 16 = mul-le-mul (let a : c.loop-y.y ≤ 2 ^ 16 = omega arith in a) (let a : c.args.pixels.now.colours.width ≤ 2 ^ 16 = omega arith in a) in
    omega (arith, few, area, c.breaks_in.ensures, c.row-row.ensures.len, c.loop-y.invariant.small)

pub returns-then-limit-y : goal.returns-then-limit-y
returns-then-limit-y c t b =
    let rows : List (List ℕ) = pixel_lines c.args.pixels.now in
    let row : c.row-row.result.now ≡ row_at rows c.loop-y.y = c.row-row.ensures.row in
    let wide : length (row_at rows c.loop-y.y) ≡ c.args.pixels.now.colours.width = sym (ap (length {A = ℕ}) row) ∙ c.row-row.ensures.len in
    let found : c.breaks_in.result ≡ breaks (row_at rows c.loop-y.y) (row_at rows (c.loop-y.y - 1)) c.args.pixels.now.colours.width =
    c.breaks_in.ensures ∙ ap (breaks c.row-row.result.now c.row-above.result.now) c.row-row.ensures.len
    ∙ ap (λ (r : List ℕ). breaks r c.row-above.result.now c.args.pixels.now.colours.width) row ∙ ap (λ (r : List ℕ). breaks (row_at rows c.loop-y.y) r c.args.pixels.now.colours.width) c.row-above.ensures.row in
    let more = rows_breaks b rows c.loop-y.y c.args.pixels.now.colours.width c.loop-y.count c.breaks_in.result wide found (c.loop-y.invariant.certain b) in
    let e : c.loop-y.y + 1 + (length rows - (c.loop-y.y + 1)) ≡ length rows = omega (arith, rows_count c.args.pixels.now.colours.width c.args.pixels.now.colours.height (pixels_in c.args.pixels.now)) in
    let fewer = fewer_rows (subrectangles_in b rows) (c.loop-y.y + 1) (length rows - (c.loop-y.y + 1)) in
    enough c.args.limit ((c.loop-y.y + 1) * c.args.pixels.now.colours.width) (c.loop-y.count + c.breaks_in.result) _ _ c.if-limit-y.true more
    (subst (λ (n : ℕ). length (flat_map (subrectangles_in b rows) (range_with_len 0 (c.loop-y.y + 1))) ≤ length (flat_map (subrectangles_in b rows) (range_with_len 0 n))) e fewer)

pub loop-y-preserved : goal.loop-y-preserved
loop-y-preserved c =
    let rows : List (List ℕ) = pixel_lines c.args.pixels.now in
    let row : c.row-row.result.now ≡ row_at rows c.loop-y.y = c.row-row.ensures.row in
    let wide : length (row_at rows c.loop-y.y) ≡ c.args.pixels.now.colours.width = sym (ap (length {A = ℕ}) row) ∙ c.row-row.ensures.len in
    let found : c.breaks_in.result ≡ breaks (row_at rows c.loop-y.y) (row_at rows (c.loop-y.y - 1)) c.args.pixels.now.colours.width =
    c.breaks_in.ensures ∙ ap (breaks c.row-row.result.now c.row-above.result.now) c.row-row.ensures.len
    ∙ ap (λ (r : List ℕ). breaks r c.row-above.result.now c.args.pixels.now.colours.width) row ∙ ap (λ (r : List ℕ). breaks (row_at rows c.loop-y.y) r c.args.pixels.now.colours.width) c.row-above.ensures.row in
    let few = breaks_small (row_at rows c.loop-y.y) (row_at rows (c.loop-y.y - 1)) c.args.pixels.now.colours.width in
    let e : (c.loop-y.y + 1) * c.args.pixels.now.colours.width ≡ c.loop-y.y * c.args.pixels.now.colours.width + c.args.pixels.now.colours.width = omega arith in
    record {
      certain = λ b. rows_breaks b rows c.loop-y.y c.args.pixels.now.colours.width c.loop-y.count c.breaks_in.result wide found (c.loop-y.invariant.certain b);
      small = omega (arith, few, found, e, c.loop-y.invariant.small);
      rows = next_rows c.args.pixels.now c.loop-y.y c.go_on.new.rows c.go_on.ensures;
    }
