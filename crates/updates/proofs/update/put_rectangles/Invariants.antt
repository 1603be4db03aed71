use Rattle.std.proofs.Common.{◌≡◌, ◌++◌, length}
use Rattle.updates.specs.Remaining.{left_of, IsWithin}
use Rattle.updates.specs.Updates.{rectangles_bytes}
use Rattle.updates.proofs.update.put_rectangles.Given as goal

-- what is appended so far, and what is left, are the update
abbrev pub invariant-parts : goal.invariant-parts
invariant-parts l = record {
  within : IsWithin l.rectangles.coloured.items l.reached;
  bytes : l.out.items ++ left_of l.rectangles l.reached ≡ l.fn.out.items ++ rectangles_bytes l.rectangles;
}

abbrev pub decreases-parts : goal.decreases-parts
decreases-parts l = length (left_of l.rectangles l.reached)
