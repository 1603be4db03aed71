use Rattle.std.proofs.Common.{◌≡◌, ◌<◌, ℕ, true, slice_index_or}
use Rattle.connections.specs.Serving.{Serving, GoesOn, may_cut_at}
use Rattle.connections.proofs.connections.Connections.look_at_all.Given as goal

-- the first places were looked at
abbrev pub invariant-loop-index : goal.invariant-loop-index
invariant-loop-index g l = record {
  same : ◌≡◌ {A = Serving} l.self (record l.fn.self { slots = l.self.slots });
  served : GoesOn l.fn.self l.self;
  looked : (i : ℕ) → i < l.index → may_cut_at l.self.slots (slice_index_or l.fn.self.agenda i 0) ≡ true;
  others : (key : ℕ) → may_cut_at l.fn.self.slots key ≡ true → may_cut_at l.self.slots key ≡ true;
}
