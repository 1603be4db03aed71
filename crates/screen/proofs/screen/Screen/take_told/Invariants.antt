use Rattle.std.proofs.Common.{◌≡◌, ◌-◌, ◌*◌, ◌≤◌, List, ◌++◌, None}
use Rattle.scene.specs.declared.Config.{Config}
use Rattle.scene.specs.declared.Event.{Event}
use Rattle.scene.specs.Alone.{config_refusal}
use Rattle.screen.specs.State.{state}
use Rattle.source_pixels.specs.declared.pieces.Piece.{Piece}
use Rattle.screen.specs.Happening.{AllHappen}
use Rattle.screen.specs.Paints.{paints_of}
use Rattle.screen.proofs.RowsLemmas.{AreRowsTaken}
use Rattle.screen.proofs.screen.Screen.take_told.Given as goal

abbrev pub invariant-parts : goal.invariant-parts
invariant-parts g l = record {
  within : l.y ≤ l.source.height;
  small : l.places ≤ l.source.width * l.y;
  none : l.places ≡ 0 → l.self ≡ l.initial.self;
  paints : (config : Config) (list : List Event) → l.initial.self ≡ state config list → (pieces : List Piece) × (l.self ≡ state config (list ++ paints_of l.left l.top pieces)) × g.T.Witness.was_told (paints_of l.left l.top pieces) l.initial.witness l.witness × AllHappen config list (paints_of l.left l.top pieces);
  takes : (config : Config) (list : List Event) → config_refusal config ≡ None → l.initial.self ≡ state config list
      → AreRowsTaken (λ es. g.T.Witness.was_told es l.initial.witness l.witness × AllHappen config list es) l.source l.left l.top config list l.initial.self l.self l.y l.places;
}

abbrev pub decreases-parts : goal.decreases-parts
decreases-parts g l = l.source.height - l.y
