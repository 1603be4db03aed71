use Rattle.std.proofs.Common.{◌≡◌, ◌+◌, ◌-◌, ◌*◌, length, take, drop, refl, ap, ◌∙◌, arith, rules}
use Rattle.std.proofs.lemmas.List.{places, length-take, length-drop}
use Rattle.framebuffer.specs.Rows.{colours_of_rows}
use Rattle.framebuffer.specs.BlockLemmas.{row_given}
use Rattle.framebuffer.proofs.RowLemmas.{own_set, wide_set, written_long, one_more_row}
use Rattle.framebuffer.proofs.rows.write_rows.Goals as goal

pub loop-i-preserved : goal.loop-i-preserved
loop-i-preserved c =
    let b = c.args.block in
    let i = c.loop-i.i in
    let given = row_given b.rows b.columns i _ c.requires.whole c.loop-i-test.true in
    let long = c.loop-i.invariant.rows (b.top + i) c.index-rows-block.result (omega arith) in
    let size : length (take (i * b.columns + b.columns - i * b.columns) (drop (i * b.columns) c.args.colours.now)) ≡ b.columns = simp (length-take, length-drop) (omega (arith, given)) in
    record {
      rows = wide_set c.args.width c.loop-i.rows (b.top + i) c.write_in_row.new.row (omega arith) c.loop-i.invariant.rows
          (ap length c.write_in_row.ensures.colours ∙ written_long b.left _ _ (omega (arith, long, size, c.requires.wide)) ∙ long);
      own = own_set c.loop-i.rows b.top (b.top + b.rows) (b.top + i) c.write_in_row.new.row (omega arith) (λ k d above below other. c.loop-i.invariant.own k d above below) c.write_in_row.ensures.own;
      colours = one_more_row c.args.width b c.args.colours.now (colours_of_rows c.args.rows.now) c.loop-i.rows _ c.write_in_row.new.row c.index-rows-block.result i (b.top + i) refl c.requires.wide (omega arith) c.loop-i.invariant.rows
          size (λ j below. search (rules, places, given)) c.write_in_row.ensures.colours c.loop-i.invariant.colours;
    }
