use Rattle.std.proofs.Common.{◌≡◌, ℕ, ◌+◌, ◌*◌, ◌<◌, All, get_or}
use Rattle.framebuffer.specs.Blocks.{colour_written}
use Rattle.framebuffer.specs.Rows.{colours_of_rows, IsOfWidth, AreOwn}
use Rattle.framebuffer.proofs.rows.write_rows.Given as goal

-- the first i rows of the block are written
abbrev pub invariant-loop-i : goal.invariant-loop-i
invariant-loop-i l = record {
  rows : All (IsOfWidth l.width) l.rows;
  own : AreOwn l.block.top (l.block.top + l.block.rows) l.rows;
  colours : (y x : ℕ) → x < l.width → get_or (colours_of_rows l.rows) (y * l.width + x) 0 ≡ colour_written l.width (record l.block { rows = l.i }) l.colours (colours_of_rows l.fn.rows) y x;
}
