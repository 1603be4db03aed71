-- What may keep a loop from being made, where its configuration is within its limits.
use Rattle.std.specs.Prelude.{◌≡◌, Result, IfErr, ◌⊎◌}
use Rattle.screen.specs.declared.ScreenError.TheVariants.{OutOfMemory}
use Rattle.event_loop.specs.declared.event_loop.LoopError.{LoopError}
use Rattle.event_loop.specs.declared.event_loop.LoopError.TheVariants.{Network, Screen}

-- a loop, or the poller's refusal, or want of memory
abbrev pub IsOpenedOr : {X : Type 0} → Result X LoopError → Type 0
IsOpenedOr result = IfErr result (λ e. (e ≡ Network) ⊎ (e ≡ Screen OutOfMemory))
