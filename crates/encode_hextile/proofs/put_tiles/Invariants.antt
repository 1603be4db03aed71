use Rattle.std.proofs.Common.{◌≡◌, ◌++◌}
use Rattle.encode_hextile.specs.Tiles.{pixel_rows}
use Rattle.encode_hextile.specs.Hextile.{nothing, tiles, carried_after}
use Rattle.encode_hextile.proofs.Folds.{first_rows}
use Rattle.encode_hextile.proofs.put_tiles.Given as goal

-- the rows of tiles passed are appended, and carried is what the last of them left
abbrev pub invariant-loop-row : goal.invariant-loop-row
invariant-loop-row l = record {
  next : l.carried ≡ carried_after l.table (pixel_rows l.table l.colours) nothing (first_rows l.colours.width l.row);
  items : l.out.items ≡ l.fn.out.items ++ tiles l.table (pixel_rows l.table l.colours) nothing (first_rows l.colours.width l.row);
}
