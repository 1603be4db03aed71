use Rattle.std.proofs.Common.{◌≡◌, ℕ, ◌+◌, ◌*◌, ◌<◌, get_or, take, true, All}
use Rattle.framebuffer.specs.Moves.{colour_moved}
use Rattle.framebuffer.specs.Rows.{colours_of_rows, IsOfWidth, StayOwn}
use Rattle.framebuffer.proofs.moves.move_pieces.Given as goal

-- the places of the rectangles so far have their colours
abbrev pub invariant-loop-piece : goal.invariant-loop-piece
invariant-loop-piece l = record {
  wide : All (IsOfWidth l.width) l.rows;
  own : StayOwn l.fn.rows l.rows;
  colours : (k x : ℕ) → k < l.height → x < l.width → get_or (colours_of_rows l.rows) (k * l.width + x) 0 ≡ colour_moved l.width l.height (take l.piece-index l.pieces) l.offset (λ row. true) (colours_of_rows l.fn.rows) k x;
}
