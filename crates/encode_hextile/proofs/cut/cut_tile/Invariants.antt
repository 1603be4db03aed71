use Rattle.std.proofs.Common.{◌≡◌, ◌*◌, ◌++◌, take, drop}
use Rattle.std.specs.List.{concat}
use Rattle.encode_hextile.specs.Tiles.{pixel_rows}
use Rattle.encode_hextile.specs.Tiles.{tile_rows}
use Rattle.encode_hextile.proofs.Cuts.{tile_at}
use Rattle.encode_hextile.proofs.cut.cut_tile.Given as goal

-- the rows passed are written
abbrev pub invariant-loop-y : goal.invariant-loop-y
invariant-loop-y l = l.places ≡ concat (take l.y (tile_rows (pixel_rows l.table l.colours) (tile_at l.column l.row))) ++ drop (l.y * l.across) l.fn.places
