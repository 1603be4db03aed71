use Rattle.std.proofs.Common.{◌≡◌, ◌≢◌, ◌⊎◌, ℕ, Some, Contains}
use Rattle.connection.specs.Connection.{ViewerConnection}
use Rattle.connections.specs.Serving.{at_key}
use Rattle.connections.proofs.listing.key_of.Given as goal

-- each connection is another viewer's, or among the entries that are left; and these are connections
abbrev pub invariant-loop-key : goal.invariant-loop-key
invariant-loop-key g l =
    (goal.iterator-loop-key g).can_next l.key-iterator ×
    (goal.iterator-loop-key g).is_finite l.key-iterator ×
    ((key : ℕ) (e : ViewerConnection) → at_key l.connections.slots key ≡ Some e → (e.number ≢ l.viewer) ⊎ Contains l.key-iterator (key, e)) ×
    ((key : ℕ) (e : ViewerConnection) → Contains l.key-iterator (key, e) → at_key l.connections.slots key ≡ Some e)
