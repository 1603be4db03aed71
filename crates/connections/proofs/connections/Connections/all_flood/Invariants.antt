use Rattle.std.proofs.Common.{◌≡◌, ◌<◌, ℕ, true, slice_index_or}
use Rattle.connections.specs.Serving.{floods_at}
use Rattle.connections.proofs.connections.Connections.all_flood.Given as goal

-- the first places flood
abbrev pub invariant-loop-index : goal.invariant-loop-index
invariant-loop-index g l = (i : ℕ) → i < l.index → floods_at l.self.slots (slice_index_or l.self.agenda i 0) ≡ true
