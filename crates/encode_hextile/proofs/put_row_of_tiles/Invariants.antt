use Rattle.std.proofs.Common.{◌≡◌, ◌++◌}
use Rattle.encode_hextile.specs.Tiles.{pixel_rows}
use Rattle.encode_hextile.specs.Hextile.{tiles, carried_after}
use Rattle.encode_hextile.proofs.Folds.{first_tiles}
use Rattle.encode_hextile.proofs.put_row_of_tiles.Given as goal

-- the tiles passed are appended, and carried is what the last of them left
abbrev pub invariant-loop-column : goal.invariant-loop-column
invariant-loop-column l = record {
  next : l.carried ≡ carried_after l.table (pixel_rows l.table l.colours) l.fn.before (first_tiles l.row l.column);
  items : l.out.items ≡ l.fn.out.items ++ tiles l.table (pixel_rows l.table l.colours) l.fn.before (first_tiles l.row l.column);
}
