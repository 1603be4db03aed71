use Rattle.std.proofs.Common.{◌≡◌, ◌<◌, ℕ, true, slice_index_or}
use Rattle.key_set.specs.Among.{is_among}
use Rattle.connections.specs.Serving.{may_ask_at}
use Rattle.connections.proofs.listing.keep_asking.Given as goal

-- the first places were looked at
abbrev pub invariant-loop-index : goal.invariant-loop-index
invariant-loop-index g l = record {
  kept : (i : ℕ) → i < l.index → may_ask_at l.connections.slots (slice_index_or l.asking.list i 0) ≡ true → is_among (slice_index_or l.asking.list i 0) l.kept.list ≡ true;
  listed : (key : ℕ) → is_among key l.kept.list ≡ true → is_among key l.agenda.list ≡ true;
  more : (key : ℕ) → is_among key l.fn.agenda.list ≡ true → is_among key l.agenda.list ≡ true;
}
