use Rattle.std.proofs.Common.{◌≡◌, ℕ, ◌+◌, ◌*◌, ◌<◌, [], ◌∷◌, get_or, All}
use Rattle.framebuffer.specs.Moves.{colour_moved, is_among}
use Rattle.framebuffer.specs.Rows.{colours_of_rows, IsOfWidth, StayOwn}
use Rattle.framebuffer.proofs.moves.move_piece.Given as goal

-- the rectangle's places in the rows so far have their colours
abbrev pub invariant-loop-n : goal.invariant-loop-n
invariant-loop-n l = record {
  wide : All (IsOfWidth l.width) l.rows;
  own : StayOwn l.fn.rows l.rows;
  colours : (k x : ℕ) → k < l.height → x < l.width → get_or (colours_of_rows l.rows) (k * l.width + x) 0 ≡ colour_moved l.width l.height (l.piece ∷ []) l.offset (is_among l.down l.height l.n) (colours_of_rows l.fn.rows) k x;
}
