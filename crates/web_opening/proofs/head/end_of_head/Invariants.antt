use Rattle.std.proofs.Common.{◌≡◌, take, drop}
use Rattle.web_opening.specs.Head.{held_after}
use Rattle.web_opening.proofs.head.end_of_head.Given as goal

abbrev pub invariant-loop-at : goal.invariant-loop-at
invariant-loop-at l =
    held_after (take l.before l.bytes) (drop l.before l.bytes) ≡ held_after (take l.at l.bytes) (drop l.at l.bytes)
