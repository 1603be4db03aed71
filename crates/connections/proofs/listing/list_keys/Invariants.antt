use Rattle.std.proofs.Common.{◌≡◌, ◌⊎◌, ℕ, true, Some, Contains}
use Rattle.key_set.specs.Among.{is_among}
use Rattle.connection.specs.Connection.{ViewerConnection}
use Rattle.connections.specs.Serving.{at_key}
use Rattle.connections.proofs.listing.list_keys.Given as goal

-- each key with a connection is on the agenda, or among the entries that are left
abbrev pub invariant-loop-key : goal.invariant-loop-key
invariant-loop-key g l =
    (goal.iterator-loop-key g).can_next l.key-iterator ×
    (goal.iterator-loop-key g).is_finite l.key-iterator ×
    ((key : ℕ) (e : ViewerConnection) → at_key l.connections.slots key ≡ Some e → (is_among key l.agenda.list ≡ true) ⊎ Contains l.key-iterator (key, e)) ×
    ((key : ℕ) → is_among key l.fn.agenda.list ≡ true → is_among key l.agenda.list ≡ true)
