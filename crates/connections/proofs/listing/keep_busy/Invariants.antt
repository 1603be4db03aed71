use Rattle.std.proofs.Common.{◌≡◌, ◌⊎◌, ◌<◌, ℕ, true, Some, slice_index_or}
use Rattle.key_set.specs.Among.{is_among}
use Rattle.connections.specs.Serving.{works_at}
use Rattle.connections.proofs.listing.keep_busy.Given as goal

-- the first keys were looked at, but for the one that comes last, and those that were kept have work
abbrev pub invariant-loop-key : goal.invariant-loop-key
invariant-loop-key g l = record {
  kept : (i : ℕ) → i < l.key-index → works_at l.connections.slots (slice_index_or l.agenda.list i 0) ≡ true
      → (l.last ≡ Some (slice_index_or l.agenda.list i 0)) ⊎ (is_among (slice_index_or l.agenda.list i 0) l.kept.list ≡ true);
  work : (k : ℕ) → is_among k l.kept.list ≡ true → works_at l.connections.slots k ≡ true;
}
