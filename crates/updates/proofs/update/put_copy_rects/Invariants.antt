use Rattle.std.proofs.Common.{◌≡◌, ◌++◌, take}
use Rattle.std.specs.Prelude.{flat_map}
use Rattle.updates.specs.Updates.{copy_rect_bytes}
use Rattle.updates.proofs.update.put_copy_rects.Given as goal

abbrev pub invariant-loop-copy_rect : goal.invariant-loop-copy_rect
invariant-loop-copy_rect l = l.out.items ≡ l.fn.out.items ++ flat_map copy_rect_bytes (take l.copy_rect-index l.copy_rects)
