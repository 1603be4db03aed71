use Rattle.std.proofs.Common.{◌≡◌, ◌+◌, ◌*◌, ℕ, List, length, take, arith, sym, ap, ◌∙◌}
use Rattle.std.proofs.Math.Nat.{mul_comm}
use Rattle.std.proofs.Math.Seq.{take-length}
use Rattle.subrectangles.specs.Counted.{count_in}
use Rattle.subrectangles.specs.Subrectangles.{times}
use Rattle.subrectangles.proofs.RowsAsPixels.{still_room, same_rows}
use Rattle.subrectangles.specs.Counts.{best_is, rows_alike}
use Rattle.subrectangles.specs.Pixels.{pixels_in, some_pixels, whole}
use Rattle.subrectangles.proofs.background.counted_background.Goals as goal

pub loop-y-preserved : goal.loop-y-preserved
loop-y-preserved c =
    let ps : List ℕ = pixels_in c.args.pixels.now in
    let n : ℕ = c.rows_like-rows.result in
    record {
      within = c.rows_like-rows.ensures.within;
      counted = λ q.
          c.in_ok-count_row.ensures.counted q ∙ ap (λ (t : ℕ). t + n * times q c.row.result.now) (c.loop-y.invariant.counted q)
          ∙ ap (λ (r : List ℕ). times q (take (c.loop-y.y * c.args.pixels.now.colours.width) ps) + n * times q r) c.row.ensures.row
          ∙ sym (rows_alike c.args.pixels.now.colours.width c.args.pixels.now.colours.height ps c.loop-y.y n q c.rows_like-rows.ensures.within
          (λ k lt. same_rows c.args.pixels.now (c.loop-y.y + k) c.loop-y.y (omega (arith, lt, c.rows_like-rows.ensures.within)) (omega (arith, c.rows_like-rows.ensures.within)) (c.rows_like-rows.ensures.same k lt)));
      room = still_room c.args.pixels.now c.loop-y.places c.fill.new.places c.loop-y.invariant.room;
      best = c.in_ok-count_row.ensures.best;
    }

pub returns : goal.returns
returns c =
    let ps : List ℕ = pixels_in c.args.pixels.now in
    let last : c.loop-y.y ≡ c.args.pixels.now.colours.height = omega (arith, c.loop-y.invariant.within) in
    let whole : c.loop-y.y * c.args.pixels.now.colours.width ≡ length ps = ap (λ (k : ℕ). k * c.args.pixels.now.colours.width) last ∙ mul_comm c.args.pixels.now.colours.height c.args.pixels.now.colours.width ∙ sym (whole c.args.pixels.now) in
    best_is ps (count_in c.loop-y.counter) c.loop-y.counter.best c.loop-y.counter.most
    (λ q. c.loop-y.invariant.counted q ∙ ap (times q) (ap (λ (k : ℕ). take k ps) whole ∙ take-length ps)) (some_pixels c.args.pixels.now) c.loop-y.invariant.best
