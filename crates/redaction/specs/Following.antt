-- What a redactor keeps of a session's events.
use Rattle.std.specs.Prelude.{◌≡◌, ℕ, List, Option, option_map}
use Rattle.std.specs.Map.{lookup}
use Rattle.std.specs.Ordering.{nat_cmp}
use Rattle.std.specs.BTreeMap.{is_at}
use Rattle.scene.specs.declared.Event.{Event}
use Rattle.redaction.specs.Places.{Spot, spot_of}
use Rattle.redaction.specs.Sessions.{conversation_of}

-- what is kept of a viewer
abbrev pub spot_at : List (ℕ × Spot) → ℕ → Option Spot
spot_at kept v = lookup (is_at (nat_cmp v)) kept

-- each viewer that is there is kept, by what was heard of it
abbrev pub Follows : List (ℕ × Spot) → List Event → Type 0
Follows kept es = (v : ℕ) → spot_at kept v ≡ option_map spot_of (conversation_of v es)
