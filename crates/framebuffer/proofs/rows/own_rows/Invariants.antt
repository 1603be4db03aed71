use Rattle.std.proofs.Common.{◌≡◌, map}
use Rattle.framebuffer.specs.Rows.{row_colours, AreOwn, StayOwn}
use Rattle.framebuffer.proofs.rows.own_rows.Given as goal

-- the first rows are held alone, and all have their colours
abbrev pub invariant-loop-i : goal.invariant-loop-i
invariant-loop-i l = record { same : map row_colours l.rows ≡ map row_colours l.fn.rows; stay : StayOwn l.fn.rows l.rows; own : AreOwn l.from l.i l.rows }
