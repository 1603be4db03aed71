use Rattle.std.proofs.Common.{◌≡◌, map, take}
use Rattle.framebuffer.specs.Rows.{row_colours, AreOwnIn}
use Rattle.framebuffer.proofs.moves.own_pieces.Given as goal

-- the rows of the rectangles so far are held alone, and all have their colours
abbrev pub invariant-loop-piece : goal.invariant-loop-piece
invariant-loop-piece l = record { same : map row_colours l.rows ≡ map row_colours l.fn.rows; own : AreOwnIn (take l.piece-index l.pieces) l.rows }
