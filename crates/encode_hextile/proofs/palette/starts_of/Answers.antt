use Rattle.std.proofs.Common.{◌≡◌, ℕ, inl, inr, List, arith, sym, ap}
use Rattle.std.proofs.lemmas.Bool.{cases_lt}
use Rattle.subrectangles.specs.Subrectangles.{row_at, times}
use Rattle.subrectangles.specs.Rows.{rows_in}
use Rattle.encode_hextile.proofs.Lists.{starts_row, starts_all}
use Rattle.encode_hextile.proofs.palette.starts_of.Goals as goal

pub loop-y-preserved : goal.loop-y-preserved
loop-y-preserved c =
    let rows : List (List ℕ) = rows_in c.args.pixels.now in
    let here : c.row.result.now ≡ row_at rows c.loop-y.y = c.row.ensures.row in
    record {
      counted = λ b. starts_row b c.args.pixels.now.width c.args.pixels.now.height c.args.pixels.now.values.now c.loop-y.y c.loop-y.starts c.starts_in-starts.result c.args.pixels.now.whole c.loop-y-test.true (c.loop-y.invariant.counted b)
          (omega (arith, c.starts_in-starts.ensures.begin rows c.loop-y.y b (omega (arith, c.loop-y.auto.y)) (sym here) (sym c.row-above.ensures.row), ap (times b) here));
      bound = omega (arith, c.loop-y-test.true);
      few = omega (arith, c.loop-y.invariant.few, c.starts_in-starts.ensures.few, c.row.ensures.len, c.requires.columns, c.loop-y.auto.y);
    }

pub returns-clause-few : goal.returns-clause-few
returns-clause-few c = omega (arith, c.loop-y.invariant.few, c.loop-y.invariant.bound, c.requires.rows)

pub returns-clause-begin : goal.returns-clause-begin
returns-clause-begin c = λ b.
    elim (cases_lt 0 c.args.pixels.now.height) [
      | inl some ↦ starts_all b c.args.pixels.now.width c.args.pixels.now.height c.args.pixels.now.values.now c.loop-y.y c.loop-y.starts c.args.pixels.now.whole (omega (arith, c.loop-y-test.false, c.loop-y.invariant.bound)) (c.loop-y.invariant.counted b)
      | inr none ↦ omega (arith, c.loop-y.invariant.few, c.loop-y.invariant.bound)
    ]
