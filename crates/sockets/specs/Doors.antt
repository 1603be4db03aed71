-- How listeners are asked for connections.
use Rattle.std.specs.Prelude.{◌≡◌, ◌⊎◌, ℕ, Bool, true, false, ◌-◌, ◌≤◌, nat_le, ◌||◌, ◌==◌, if◌then◌else◌, Option, None, Some, IsSome, IsSomeAnd, IfSome}
use Rattle.std.specs.Duration.{as_nanos}
use Rattle.std.specs.Time.{instant_nanos}
use Rattle.std.specs.declared.time.Duration.{Duration}
use Rattle.std.specs.declared.time.Instant.{Instant}
use Rattle.sockets.specs.declared.door.Door.{Door}
use Rattle.sockets.specs.declared.doors.ListenError.{ListenError}
use Rattle.sockets.specs.declared.doors.ListenError.TheVariants.{Network, OutOfMemory}

-- the time has come at which the system is asked again for what it had no room for
abbrev pub is_due : ℕ → Option Instant → Bool
is_due now None = false
is_due now (Some time) = nat_le (instant_nanos time) now

-- a listener, which is asked again where that time has come
abbrev pub asked_again : ℕ → Door → Door
asked_again now door = if is_due now door.retry then record door { may_accept = true; retry = None } else door

-- one at which a connection may wait
abbrev pub noted : Door → Door
noted door = record door { may_accept = true }

-- the one with a number is, and any other is as it was
abbrev pub noted_at : ℕ → Door → Door
noted_at number door = record door { may_accept = door.may_accept || (door.number == number) }

-- a time from now is over no later than that at which a listener is asked again, if it is
abbrev pub IsAskedBy : ℕ → Option Duration → Door → Type 0
IsAskedBy now wait door = IfSome door.retry (λ time. IsSomeAnd wait (λ w. as_nanos w ≤ instant_nanos time - now))

-- a listener was asked: it has what it had, and where it gave none a connection may wait there no more, or may wait still
abbrev pub IsAsked : {X : Type 0} → Door → Door → Option X → Type 0
IsAsked door asked result =
    (asked ≡ record door { may_accept = asked.may_accept; retry = asked.retry }) × (IsSome result → (door.may_accept ≡ true) × (asked ≡ door))

-- the poller refused a listener, or memory was refused
abbrev pub IsUnreachable : ListenError → Type 0
IsUnreachable e = (e ≡ Network) ⊎ (e ≡ OutOfMemory)
