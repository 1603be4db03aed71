use Rattle.std.proofs.Common.{take}
use Rattle.framebuffer.proofs.PieceLemmas.{ArePieces}
use Rattle.framebuffer.proofs.spans.destinations.Given as goal

-- the pieces so far are those of the rectangles so far
abbrev pub invariant-loop-rect : goal.invariant-loop-rect
invariant-loop-rect l = ArePieces l.width l.height (l.dx, l.dy) (take l.rect-index l.rects) l.pieces.items
