-- The program's limits, and why it ended.
use Rattle.std.specs.Prelude.{◌≡◌, ℕ, List, Bool, true}
use Rattle.screen.specs.declared.Config.{Config}
use Rattle.screen.specs.declared.History.TheVariants as history
use Rattle.event_loop.specs.declared.LoopError.{LoopError}
use Rattle.event_loop.specs.declared.LoopError.TheVariants as error
use Rattle.mirror.specs.declared.program.Trouble.{Trouble}
use Rattle.mirror.specs.declared.program.Trouble.TheVariants as trouble

-- a screen of this size and name, which keeps no history
pub record IsConfig (width height : ℕ) (name : List ℕ) (config : Config) : Type 0 where
  pub wide : config.width ≡ width
  pub high : config.height ≡ height
  pub named : config.name ≡ name
  pub rects : config.rects_per_update ≡ 50
  pub history : config.history ≡ history.NotKept

-- a loop ended
abbrev pub trouble_of : LoopError → Trouble
trouble_of (error.Screen refusal) = trouble.OutOfMemory
trouble_of _ = trouble.Network

-- the program ends whatever its source did
abbrev pub IsTrouble : Trouble → Type 0
IsTrouble trouble.NoSource = ⊥
IsTrouble _ = Unit {0}

-- it ends so for want of a source where it ends with its source alone
abbrev pub IsTroubleWith : (once : Bool) → Trouble → Type 0
IsTroubleWith once trouble.NoSource = once ≡ true
IsTroubleWith once _ = Unit {0}
