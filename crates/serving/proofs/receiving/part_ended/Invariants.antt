use Rattle.std.proofs.Common.{◌≡◌, ◌≤◌, length}
use Rattle.serving.proofs.receiving.part_ended.Given as goal

abbrev pub invariant-loop : goal.invariant-loop
invariant-loop g l =
    (l.guests.came ≡ l.fn.guests.came)
    × (l.guests.limit ≡ l.fn.guests.limit)
    × (length l.guests.present.items ≤ length l.fn.guests.present.items)
