-- What holds of the paints of a program's own pixels.
use Rattle.std.proofs.Common.{ℕ, List, Result, Ok, Err}
use Rattle.source_pixels.specs.Source.{Source}
use Rattle.scene.specs.declared.Config.{Config}
use Rattle.scene.specs.declared.ScreenError.{ScreenError}
use Rattle.scene.specs.declared.Event.{Event}
use Rattle.screen.specs.State.{State}
use Rattle.screen.specs.Takes.{Takes, TakesTelling}

pub takes-taken : (told : List Event → Type 0) (s : Source) (left top : ℕ) (config : Config) (list : List Event) (old new : State) (r : Result ℕ ScreenError) → TakesTelling told s left top config list old new r → Takes s left top config list old new r
takes-taken told s left top config list old new (Ok places) h = h.0
takes-taken told s left top config list old new (Err e) h = h.0

pub takes-so : (told tells : List Event → Type 0) (s : Source) (left top : ℕ) (config : Config) (list : List Event) (old new : State) (r : Result ℕ ScreenError) → ((es : List Event) → told es → tells es)
    → TakesTelling told s left top config list old new r → TakesTelling tells s left top config list old new r
takes-so told tells s left top config list old new (Ok places) so h = (h.0, so _ h.1)
takes-so told tells s left top config list old new (Err e) so h = (h.0, so _ h.1)
