use Rattle.std.proofs.Common.{pos, rules, ap, [], ◌∷◌}
use Rattle.std.specs.Prelude.{FitsSigned, int_lt}
use Rattle.std.specs.Int.{w32}
use Rattle.std.proofs.lemmas.Int.{to_z-of_z}
use Rattle.framebuffer.specs.Rows.{colours_of_rows}
use Rattle.framebuffer.proofs.MoveLemmas.{rows_more, all_moved, none_moved, one_source}
use Rattle.framebuffer.proofs.moves.move_piece.Goals as goal

pub loop-n-init : goal.loop-n-init
loop-n-init c = record {
  wide = c.requires.wide;
  own = λ k d own. own;
  colours = λ k x high left. none_moved c.args.width c.args.height c.args.piece c.args.offset (colours_of_rows c.args.rows.now) _ c.rows_of-first.result.0 k x high c.rows_of-first.ensures.none;
}

pub move_row-requires-clause-own : goal.move_row-requires-clause-own
move_row-requires-clause-own c = λ k d above below. c.loop-n.invariant.own k d (c.requires.own k d above below)

pub loop-n-preserved : goal.loop-n-preserved
loop-n-preserved c =
    let dy : FitsSigned w32 c.args.offset.1 = search rules in
    record {
      wide = c.move_row.ensures.wide;
      own = λ k d own. c.move_row.ensures.own k d (c.loop-n.invariant.own k d own);
      colours = rows_more c.args.width c.args.height (c.args.piece ∷ []) c.args.offset (colours_of_rows c.args.rows.now) (colours_of_rows c.loop-n.rows) (colours_of_rows c.move_row.new.rows) _ c.loop-n.n c.row_after-y.result
          (ap (int_lt (pos 0)) (to_z-of_z w32 _ dy)) c.row_after-y.ensures.bound (one_source c.args.width c.args.height c.args.offset c.args.piece c.requires.source) c.row_after-y.ensures.next c.row_after-y.ensures.before c.loop-n.invariant.colours c.move_row.ensures.colours;
    }

pub returns-clause-colours : goal.returns-clause-colours
returns-clause-colours c = λ k x high left. all_moved c.args.width c.args.height c.args.piece c.args.offset (colours_of_rows c.args.rows.now) (colours_of_rows c.loop-n.rows) _ c.loop-n.n k x high (λ j below there. c.rows_of-first.ensures.all c.loop-n.n j c.loop-n-test.false below there) (c.loop-n.invariant.colours k x high left)
