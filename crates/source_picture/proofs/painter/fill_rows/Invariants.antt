use Rattle.std.proofs.Common.{◌≡◌, ◌≤◌, ◌-◌, List, None}
use Rattle.screen.specs.declared.Config.{Config}
use Rattle.screen.specs.declared.Event.{Event}
use Rattle.screen.specs.Alone.{config_refusal}
use Rattle.screen.specs.State.{state}
use Rattle.connections.specs.Drawing.{Draws}
use Rattle.source_picture.specs.Painting.{IsPainted, with_pixel}
use Rattle.source_picture.proofs.painter.fill_rows.Given as goal

-- so far the first rows are filled
abbrev pub invariant-rows : goal.invariant-rows
invariant-rows l = record {
  draws : Draws l.fn.canvas l.canvas;
  some : l.filled ≤ l.area.h;
  painted : (config : Config) (list : List Event) → config_refusal config ≡ None → l.fn.canvas.screen ≡ state config list
      → IsPainted (with_pixel (record l.area { h = l.filled }) l.pixel) l.fn.canvas.screen.picture l.canvas.screen.picture;
}

abbrev pub decreases-rows : goal.decreases-rows
decreases-rows l = l.area.h - l.filled
