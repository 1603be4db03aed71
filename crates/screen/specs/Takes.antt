-- What taking a program's own pixels does to a screen.
use Rattle.std.specs.Prelude.{◌≡◌, ℕ, ◌<◌, ◌⊎◌, List, ◌++◌, MatchResult, Result}
use Rattle.source_pixels.specs.declared.pieces.Piece.{Piece}
use Rattle.source_pixels.specs.Source.{Source}
use Rattle.source_pixels.specs.Differences.{AreDifferences}
use Rattle.scene.specs.declared.Config.{Config}
use Rattle.scene.specs.declared.ScreenError.{ScreenError}
use Rattle.scene.specs.declared.ScreenError.TheVariants.{OutOfMemory}
use Rattle.scene.specs.declared.Event.{Event}
use Rattle.screen.specs.State.{State, state}
use Rattle.screen.specs.Paints.{paints_of}
use Rattle.screen.specs.Taken.{taken, part_from, colour_on}

-- the picture has the source's colours; the screen stands for its events with the paints of what differed behind them
pub record IsTaken (s : Source) (left top : ℕ) (config : Config) (list : List Event) (old new : State) (places : ℕ) : Type 0 where
  pub pieces : List Piece
  pub differences : AreDifferences s (part_from old.picture left top) (record { pieces = pieces; places = places })
  pub events : new ≡ state config (list ++ paints_of left top pieces)
  pub picture : new.picture ≡ taken s left top old.picture

-- want of memory: the first paints are made, or none; each place is as it was, or as it was to be
pub record IsPartlyTaken (s : Source) (left top : ℕ) (config : Config) (list : List Event) (old new : State) (error : ScreenError) : Type 0 where
  pub memory : error ≡ OutOfMemory
  pub pieces : List Piece
  pub events : new ≡ state config (list ++ paints_of left top pieces)
  pub places : (x y : ℕ) → x < old.picture.width → y < old.picture.height →
      (colour_on new.picture x y ≡ colour_on old.picture x y) ⊎ (colour_on new.picture x y ≡ colour_on (taken s left top old.picture) x y)

abbrev pub Takes : Source → ℕ → ℕ → Config → List Event → State → State → Result ℕ ScreenError → Type 0
Takes s left top config list old new result = MatchResult result (λ places. IsTaken s left top config list old new places) (λ e. IsPartlyTaken s left top config list old new e)

-- the same, where something holds of the paints besides
abbrev pub TakesTelling : (List Event → Type 0) → Source → ℕ → ℕ → Config → List Event → State → State → Result ℕ ScreenError → Type 0
TakesTelling told s left top config list old new result = MatchResult result
    (λ places. (taken : IsTaken s left top config list old new places) × told (paints_of left top taken.pieces))
    (λ e. (taken : IsPartlyTaken s left top config list old new e) × told (paints_of left top taken.pieces))
