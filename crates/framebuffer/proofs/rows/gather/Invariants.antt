use Rattle.std.proofs.Common.{◌≡◌, take}
use Rattle.framebuffer.specs.Rows.{parts_of_rows}
use Rattle.framebuffer.proofs.rows.gather.Given as goal

-- the colours of the rows so far
abbrev pub invariant-loop-row : goal.invariant-loop-row
invariant-loop-row l = l.colours.items ≡ parts_of_rows l.left l.columns (take l.row-index l.rows)
