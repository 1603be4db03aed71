use Rattle.std.proofs.Common.{◌≡◌, map}
use Rattle.framebuffer.specs.Rows.{row_colours}
use Rattle.framebuffer.proofs.rows.take_back_rows.Given as goal

-- all rows have their colours
abbrev pub invariant-loop-i : goal.invariant-loop-i
invariant-loop-i l = map row_colours l.rows ≡ map row_colours l.fn.rows
