-- Why a loop doesn't listen.
use Rattle.std.specs.Prelude.{◌≡◌, ◌⊎◌}
use Rattle.screen.specs.declared.ScreenError.TheVariants.{OutOfMemory}
use Rattle.sockets.specs.declared.doors.ListenError.{ListenError}
use Rattle.sockets.specs.declared.doors.ListenError.TheVariants as refusal
use Rattle.event_loop.specs.declared.event_loop.LoopError.{LoopError}
use Rattle.event_loop.specs.declared.event_loop.LoopError.TheVariants.{Network, Screen, TooManyListeners}

-- why a loop doesn't listen, by why its sockets don't
abbrev pub loop_error : ListenError → LoopError
loop_error refusal.Network = Network
loop_error refusal.TooManyListeners = TooManyListeners
loop_error refusal.OutOfMemory = Screen OutOfMemory

-- the poller refused a listener, or memory was refused
abbrev pub IsUnreachable : LoopError → Type 0
IsUnreachable e = (e ≡ Network) ⊎ (e ≡ Screen OutOfMemory)

-- why a loop doesn't listen
abbrev pub IsListenRefusal : LoopError → Type 0
IsListenRefusal e = (e ≡ TooManyListeners) ⊎ IsUnreachable e
