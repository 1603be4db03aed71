use Rattle.std.proofs.Common.{◌≡◌, ℕ, ◌+◌, ◌-◌, ◌*◌, ◌%◌, ◌^◌, ◌<◌, ◌≤◌, List, length, get_or, replicate, arith, ap, sym, subst, ◌∙◌}
use Rattle.std.specs.List.{flat_map, range_with_len}
use Rattle.std.proofs.lemmas.Bool.{ltb-true}
use Rattle.std.proofs.Math.Nat.{mul-le-mul}
use Rattle.std.proofs.lemmas.List.{get_or-replicate}
use Rattle.subrectangles.specs.Breaks.{breaks, breaks_like}
use Rattle.subrectangles.specs.Subrectangles.{row_at, subrectangles_in}
use Rattle.subrectangles.specs.Pixels.{pixel_lines, pixels_in}
use Rattle.subrectangles.proofs.Early.{breaks_small, like_small, rows_kinds}
use Rattle.subrectangles.proofs.RowsAsPixels.{next_rows}
use Rattle.subrectangles.specs.Scans.{rows_count, fewer_rows}
use Rattle.subrectangles.proofs.breaks.has_too_many_kinds.Goals as goal

zeroes : (k m : ℕ) → k < 251 → get_or {A = ℕ} (replicate {A = ℕ} 251 0) k 0 ≤ m
zeroes k m lt = omega (arith, get_or-replicate {A = ℕ} 251 k 0 0 lt)

pub loop-y-init : goal.loop-y-init
loop-y-init c = record {
  certain = λ b. omega arith;
  small = omega arith;
  rows = c.in_ok-rows.ensures;
  each = λ k lt. zeroes k (1 * c.args.pixels.now.colours.width) lt;
}

pub overflow_add-count : goal.overflow_add-count
overflow_add-count c =
    let few = breaks_small c.row-row.result.now c.row-above.result.now (length c.row-row.result.now) in
    let area : c.loop-y.y * c.args.pixels.now.colours.width ≤ 2 ^ 16 * 2 ^ 16 = mul-le-mul (let a : c.loop-y.y ≤ 2 ^ 16 = omega arith in a) (let a : c.args.pixels.now.colours.width ≤ 2 ^ 16 = omega arith in a) in
    omega (arith, few, area, c.add_breaks-count.ensures.count, c.row-row.ensures.len, c.loop-y.invariant.small)

pub loop-y-preserved : goal.loop-y-preserved
loop-y-preserved c =
    let rows : List (List ℕ) = pixel_lines c.args.pixels.now in
    let row : c.row-row.result.now ≡ row_at rows c.loop-y.y = c.row-row.ensures.row in
    let above : c.row-above.result.now ≡ row_at rows (c.loop-y.y - 1) = c.row-above.ensures.row in
    let found : c.add_breaks-count.result ≡ breaks (row_at rows c.loop-y.y) (row_at rows (c.loop-y.y - 1)) (length (row_at rows c.loop-y.y)) =
    c.add_breaks-count.ensures.count ∙ ap (λ (r : List ℕ). breaks r c.row-above.result.now (length r)) row
    ∙ ap (λ (r : List ℕ). breaks (row_at rows c.loop-y.y) r (length (row_at rows c.loop-y.y))) above in
    let alike = λ (k : ℕ). ap (λ (r : List ℕ). breaks_like k r c.row-above.result.now (length r)) row
    ∙ ap (λ (r : List ℕ). breaks_like k (row_at rows c.loop-y.y) r (length (row_at rows c.loop-y.y))) above in
    let few = breaks_small c.row-row.result.now c.row-above.result.now (length c.row-row.result.now) in
    let e : (c.loop-y.y + 1) * c.args.pixels.now.colours.width ≡ c.loop-y.y * c.args.pixels.now.colours.width + c.args.pixels.now.colours.width = omega arith in
    record {
      certain = λ b.
          let lt : b % 251 < 251 = omega arith in
          subst (λ (n : ℕ). c.loop-y.count + c.add_breaks-count.result ≤ n + length (flat_map (subrectangles_in b rows) (range_with_len 0 (c.loop-y.y + 1))))
          (sym (c.add_breaks-count.ensures.each (b % 251) lt))
          (rows_kinds b rows c.loop-y.y c.loop-y.count (get_or c.loop-y.buckets (b % 251) 0) c.add_breaks-count.result _ found (alike (b % 251)) (c.loop-y.invariant.certain b));
      small = omega (arith, few, e, c.add_breaks-count.ensures.count, c.row-row.ensures.len, c.loop-y.invariant.small);
      rows = next_rows c.args.pixels.now c.loop-y.y c.go_on.new.rows c.go_on.ensures;
      each = λ k lt.
          omega (
            arith,
            e,
            c.add_breaks-count.ensures.each k lt,
            like_small k c.row-row.result.now c.row-above.result.now (length c.row-row.result.now),
            c.row-row.ensures.len,
            c.loop-y.invariant.each k lt,
          );
    }

pub returns : goal.returns
returns c most b =
    let rows : List (List ℕ) = pixel_lines c.args.pixels.now in
    let lt : b % 251 < 251 = omega arith in
    let e : c.loop-y.y + (length rows - c.loop-y.y) ≡ length rows = omega (arith, rows_count c.args.pixels.now.colours.width c.args.pixels.now.colours.height (pixels_in c.args.pixels.now)) in
    let fewer = fewer_rows (subrectangles_in b rows) c.loop-y.y (length rows - c.loop-y.y) in
    let all = subst (λ (n : ℕ). length (flat_map (subrectangles_in b rows) (range_with_len 0 c.loop-y.y)) ≤ length (flat_map (subrectangles_in b rows) (range_with_len 0 n))) e fewer in
    omega (arith, all, c.loop-y.invariant.certain b, c.most_of.ensures (b % 251) lt, c.saturating_sub.ensures, ltb-true _ _ most)
