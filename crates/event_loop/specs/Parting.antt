-- Which viewer is let go.
use Rattle.std.specs.Prelude.{◌≡◌, ◌≢◌, ℕ, Some, option_map}
use Rattle.receipts.specs.declared.Ended.{Ended}
use Rattle.connections.specs.Serving.{Serving, at_key, number_at}
use Rattle.connection.specs.Connection.{ended_by}

-- the connection with a key ended for this reason, unless it ended before
abbrev pub IsEndedAt : Ended → ℕ → Serving → Serving → Type 0
IsEndedAt reason key old new = at_key new.slots key ≡ option_map (ended_by reason) (at_key old.slots key)

-- of all connections, that of the viewer with a number ended so
abbrev pub IsLetGo : Ended → ℕ → Serving → Serving → Type 0
IsLetGo reason viewer old new =
    (key : ℕ) × (number_at old.slots key ≡ Some viewer) × IsEndedAt reason key old new × ((other : ℕ) → other ≢ key → at_key new.slots other ≡ at_key old.slots other)
