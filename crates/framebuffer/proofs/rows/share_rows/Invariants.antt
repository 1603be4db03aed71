use Rattle.std.proofs.Common.{◌≡◌, map, take, drop}
use Rattle.framebuffer.specs.Rows.{row_colours}
use Rattle.framebuffer.proofs.rows.share_rows.Given as goal

-- the first i rows are shared
abbrev pub invariant-loop-i : goal.invariant-loop-i
invariant-loop-i l = record {
  same : map row_colours l.rows ≡ map row_colours l.fn.rows;
  shared : map row_colours l.shared.items ≡ take l.i (drop l.from (map row_colours l.fn.rows));
}
