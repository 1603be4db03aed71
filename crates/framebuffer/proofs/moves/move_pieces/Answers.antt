use Rattle.std.proofs.Common.{pos}
use Rattle.region.specs.declared.Rect.{Rect}
use Rattle.framebuffer.specs.Rows.{colours_of_rows}
use Rattle.framebuffer.proofs.MoveLemmas.{pieces_more}
use Rattle.framebuffer.proofs.moves.move_pieces.Goals as goal

abbrev nowhere : Rect
nowhere = record { x1 = pos 0; y1 = pos 0; x2 = pos 0; y2 = pos 0 }

pub loop-piece-preserved : goal.loop-piece-preserved
loop-piece-preserved c = record {
  wide = c.move_piece.ensures.wide;
  own = λ k d own. c.move_piece.ensures.own k d (c.loop-piece.invariant.own k d own);
  colours = pieces_more c.args.width c.args.height c.args.pieces.now c.args.offset c.loop-piece.piece-index nowhere (colours_of_rows c.args.rows.now) (colours_of_rows c.loop-piece.rows) (colours_of_rows c.move_piece.new.rows)
      c.requires.ordered c.loop-piece-test.true c.requires.sources c.loop-piece.invariant.colours c.move_piece.ensures.colours;
}
