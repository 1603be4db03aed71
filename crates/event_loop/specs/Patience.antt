-- Who is waited for no longer, since it had its ServerInit, or took too long for it.
use Rattle.std.specs.Prelude.{◌≡◌, ℕ, ◌-◌, ◌≤◌, Bool, true, false, not, ◌&&◌, ◌==◌, if◌then◌else◌, List, [], ◌∷◌, ◌++◌, Option, None, Some}
use Rattle.std.specs.Time.{instant_nanos}
use Rattle.screen.specs.State.{State}
use Rattle.receipts.specs.declared.Ended.TheVariants.{Closed}
use Rattle.connections.specs.Serving.{Serving, at_key, number_at, is_open_on}
use Rattle.event_loop.specs.declared.opening.Newcomer.{Newcomer}
use Rattle.event_loop.specs.Parting.{IsEndedAt}

-- whether the viewer with a key, if there is one, is this one, and has not had its ServerInit (RFC 6143, 7.3.2)
abbrev pub opens_on : State → Option ℕ → ℕ → Bool
opens_on screen None viewer = false
opens_on screen (Some number) viewer = (number == viewer) && not (is_open_on screen (Some number))

-- whether a viewer is in its opening: it has this key, which another one may have by now
abbrev pub is_opening : Serving → ℕ → ℕ → Bool
is_opening s key viewer = opens_on s.surface.screen (number_at s.slots key) viewer

-- those from the first one on that is in its opening
abbrev pub from_opening : Serving → List Newcomer → List Newcomer
from_opening s [] = []
from_opening s (n ∷ rest) = if is_opening s n.key n.viewer then n ∷ rest else from_opening s rest

-- the time is over that it may take
abbrev pub IsLate : ℕ → ℕ → Newcomer → Type 0
IsLate patience now n = patience ≤ now - instant_nanos n.since

-- each newcomer of a list
abbrev pub Each : (Newcomer → Type 0) → List Newcomer → Type 0
Each P [] = Unit {0}
Each P (n ∷ rest) = P n × Each P rest

-- The first newcomers are waited for no longer: of these each that was in its opening took too long, and is closed. No other viewer is.
pub record LetsGo (patience now : ℕ) (old new : Serving) (before after : List Newcomer) : Type 0 where
  pub gone : List Newcomer
  pub parts : before ≡ gone ++ after
  pub closed : Each (λ n. is_opening old n.key n.viewer ≡ true → IsLate patience now n × IsEndedAt Closed n.key old new) gone
  pub spared : (key : ℕ) → Each (λ n. n.key ≡ key → is_opening old n.key n.viewer ≡ false) gone → at_key new.slots key ≡ at_key old.slots key
