use Rattle.std.proofs.Common.{◌≡◌, vec_len}
use Rattle.update_sender.proofs.senders.Senders.new.Given as goal

-- so many are made
abbrev pub invariant-loop-group : goal.invariant-loop-group
invariant-loop-group l = vec_len l.wakes ≡ l._group
