-- What groups of bytes do, by RFC 6143 section 7.6 and 7.7.
use Rattle.std.specs.Prelude.{ℕ, ◌+◌, ◌-◌, ◌/◌, ◌%◌, min, unwrap_or}
use Rattle.pixel_translate.specs.declared.Area.{Area}
use Rattle.rfb_viewer.specs.declared.stages.Block.{Block}
use Rattle.rfb_viewer.specs.declared.stages.Tile.{Tile}
use Rattle.rfb_viewer.specs.declared.stages.Reading.{Reading}
use Rattle.rfb_viewer.specs.declared.stages.Step.{Step}
use Rattle.rfb_viewer.specs.declared.stages.Effect.TheVariants as effect
use Rattle.rfb_viewer.specs.declared.stages.Stage.TheVariants as stage

-- the places of an area
abbrev pub block_of : Area → Block
block_of a = record { x = a.x; y = a.y; columns = a.w; rows = a.h }

-- 7.6.1: an update begins, in the format that was asked for last
abbrev pub update_begun : Reading → Step
update_begun r = record { reading = record r { format = unwrap_or r.chosen r.format; stage = stage.Update }; effect = effect.Nothing }

-- 7.7.4: the places of a tile; the last of a row or a column may be smaller
abbrev pub tile_block : Area → Tile → Block
tile_block a t = record { x = a.x + t.column; y = a.y + t.row; columns = min (a.w - t.column) 16; rows = min (a.h - t.row) 16 }

-- 7.7.4: the places of a tile's subrectangle: four bits for each number, and the size is one more
abbrev pub in_tile : Area → Tile → ℕ → ℕ → Block
in_tile a t place size = record { x = a.x + t.column + place / 16; y = a.y + t.row + place % 16; columns = size / 16 + 1; rows = size % 16 + 1 }
