-- What contracts see of a viewer's two ends, and of the application's brush.
use Rattle.std.specs.Prelude.{◌≡◌, ℕ, Bool, ◌+◌, ◌-◌, ◌^◌, min, length, List, [], ◌∷◌, ◌++◌, Option, Some, None, option_map, unwrap_or}
use Rattle.messages.specs.declared.Input.{Input}
use Rattle.messages.specs.Server.{server_version}
use Rattle.screen.specs.declared.Event.{Event}
use Rattle.screen.specs.declared.History.{History}
use Rattle.screen.specs.State.{history_by}

-- all of what may not be kept; nothing where it isn't
abbrev pub all_of : {X : Type 0} → Option (List X) → List X
all_of items = unwrap_or items []

-- it has so many, where it is kept
abbrev pub Counts : {X : Type 0} → ℕ → Option (List X) → Type 0
Counts n None = Unit {0}
Counts n (Some items) = n ≡ length items

-- what was heard of a viewer: how many pieces, and their bytes where the history is kept; and its inputs that wait for a queue
pub record Listening : Type 0 where
  pub viewer : ℕ
  pub pieces : ℕ
  pub heard : Option (List ℕ)
  pub waiting : List Input

-- what was sent to it: how many updates were cut, and the bytes where the history is kept
pub record Speaking : Type 0 where
  pub viewer : ℕ
  pub cuts : ℕ
  pub sent : Option (List ℕ)

-- a viewer that connected: its two ends, and the bytes that greet it
pub record Greeting : Type 0 where
  pub listener : Listening
  pub speaker : Speaking
  pub version : List ℕ

-- how a viewer left: whether it is there no more
pub record Parted : Type 0 where
  pub viewer : ℕ
  pub gone : Bool

-- one that has just connected
abbrev pub greeted : ℕ → History → Greeting
greeted v history = record {
  listener = record { viewer = v; pieces = 0; heard = history_by history []; waiting = [] };
  speaker = record { viewer = v; cuts = 0; sent = history_by history [] };
  version = server_version;
}

-- a number, as a count that stops at 2^64 - 1 has it
abbrev pub counted : ℕ → ℕ
counted n = min n (2 ^ 64 - 1)

-- a count that stops at 2^64 - 1
abbrev pub one_more : ℕ → ℕ
one_more n = min (n + 1) (2 ^ 64 - 1)

-- a piece more was heard
abbrev pub listened : List ℕ → Listening → Listening
listened piece l = record l { pieces = one_more l.pieces; heard = option_map (λ bytes. bytes ++ piece) l.heard }

-- no inputs wait
abbrev pub without_waiting : Listening → Listening
without_waiting l = record l { waiting = [] }

-- an update more was cut
abbrev pub has_cut : Speaking → Speaking
has_cut s = record s { cuts = one_more s.cuts }

-- bytes more were written
abbrev pub has_sent : List ℕ → Speaking → Speaking
has_sent added s = record s { sent = option_map (λ bytes. bytes ++ added) s.sent }

-- the brush's list with a call more, where there is one
abbrev pub drew : Event → Option (List Event) → Option (List Event)
drew e drawn = option_map (λ events. events ++ e ∷ []) drawn
