use Rattle.std.proofs.Common.{◌≡◌, List, ◌++◌, map, take}
use Rattle.scene.specs.declared.Config.{Config}
use Rattle.scene.specs.declared.Event.{Event}
use Rattle.screen.specs.State.{state}
use Rattle.source_pixels.specs.Gathering.{piece_of}
use Rattle.screen.specs.Happening.{AllHappen}
use Rattle.screen.specs.Paints.{paints_of}
use Rattle.screen.proofs.painting.paint_bands.Given as goal

abbrev pub invariant-loop-band : goal.invariant-loop-band
invariant-loop-band g l = record {
  events : (config : Config) (list : List Event) → l.initial.screen ≡ state config list → l.screen ≡ state config (list ++ paints_of l.left l.top (take l.band-index (map (piece_of l.source) l.bands)));
  told : g.T.Witness.was_told (paints_of l.left l.top (take l.band-index (map (piece_of l.source) l.bands))) l.initial.witness l.witness;
  happened : (config : Config) (list : List Event) → l.initial.screen ≡ state config list → AllHappen config list (paints_of l.left l.top (take l.band-index (map (piece_of l.source) l.bands)));
  none : l.band-index ≡ 0 → l.screen ≡ l.initial.screen;
}
