-- Rectangles of a source as the events that paint them.
use Rattle.std.specs.Prelude.{◌≡◌, ℕ, List, map, take, ◌++◌, MatchResult, Result}
use Rattle.source_pixels.specs.declared.pieces.Piece.{Piece}
use Rattle.scene.specs.declared.Config.{Config}
use Rattle.scene.specs.declared.ScreenError.{ScreenError}
use Rattle.scene.specs.declared.ScreenError.TheVariants.{OutOfMemory}
use Rattle.scene.specs.declared.Event.{Event}
use Rattle.scene.specs.declared.Event.TheVariants.{Paint}
use Rattle.screen.specs.State.{State, state}
use Rattle.screen.specs.Happening.{AllHappen}
use Rattle.screen.specs.Taken.{piece_rect}

abbrev pub paint_of : ℕ → ℕ → Piece → Event
paint_of left top q = Paint (piece_rect left top q) q.colours

abbrev pub paints_of : ℕ → ℕ → List Piece → List Event
paints_of left top qs = map (paint_of left top) qs

-- want of memory: the first of the paints are made, or none
pub record AreFirstPainted (left top : ℕ) (config : Config) (list : List Event) (pieces : List Piece) (new : State) (error : ScreenError) : Type 0 where
  pub memory : error ≡ OutOfMemory
  pub count : ℕ
  pub events : new ≡ state config (list ++ paints_of left top (take count pieces))

-- a screen that stood for some events stands for them with the paints of some pieces behind them
abbrev pub PaintsPieces : ℕ → ℕ → Config → List Event → List Piece → State → Result (Unit {0}) ScreenError → Type 0
PaintsPieces left top config list pieces new result = MatchResult result (λ _. new ≡ state config (list ++ paints_of left top pieces)) (λ e. AreFirstPainted left top config list pieces new e)

-- the same; these paints happened, and someone was told of just these
abbrev pub PaintsTold : ℕ → ℕ → Config → List Event → List Piece → (List Event → Type 0) → State → Result (Unit {0}) ScreenError → Type 0
PaintsTold left top config list pieces told new result =
    MatchResult result (λ _. (new ≡ state config (list ++ paints_of left top pieces)) × told (paints_of left top pieces) × AllHappen config list (paints_of left top pieces))
    (λ e. (first : AreFirstPainted left top config list pieces new e) × told (paints_of left top (take first.count pieces)) × AllHappen config list (paints_of left top (take first.count pieces)))
