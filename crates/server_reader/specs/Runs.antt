-- Pixels that come at once.
use Rattle.std.specs.Prelude.{◌≡◌, ◌+◌, ◌*◌, ◌<◌, ◌≤◌, ◌⊎◌}
use Rattle.pixel_translate.specs.declared.Area.{Area}
use Rattle.server_reader.specs.declared.stage.PixelRows.{PixelRows}

-- the first rows that aren't whole, none of whose columns came
pub record IsWholeRows (rows : PixelRows) (run : Area) : Type 0 where
  pub begun : rows.column ≡ 0
  pub place : run ≡ record rows.area { h = run.h }
  pub inside : run.h ≤ rows.area.h

-- the next columns of the first row that isn't whole
pub record IsRowPart (rows : PixelRows) (run : Area) : Type 0 where
  pub place : run ≡ record { x = rows.area.x + rows.column; y = rows.area.y; w = run.w; h = 1 }
  pub inside : rows.column + run.w ≤ rows.area.w

pub record IsRun (rows : PixelRows) (run : Area) : Type 0 where
  pub some : 0 < run.w * run.h
  pub next : IsWholeRows rows run ⊎ IsRowPart rows run
