use Rattle.std.proofs.Common.{◌≡◌, length}
use Rattle.serving.specs.Services.{AreInOrder}
use Rattle.serving.proofs.accepting.next_caller.Given as goal

abbrev pub invariant-loop : goal.invariant-loop
invariant-loop g l =
    (length l.services.items ≡ length l.fn.services.items)
    × AreInOrder (length l.fn.services.items) l.services.items
