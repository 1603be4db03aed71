use Rattle.std.proofs.Common.{◌≡◌, length, take}
use Rattle.std.specs.List.{flat_map}
use Rattle.updates.specs.Bytes.{copy_bytes}
use Rattle.updates.specs.Updates.{copy_rect_bytes}
use Rattle.updates.proofs.taking.copy_rects_of.Given as goal

-- the copies so far
abbrev pub invariant-loop-rect : goal.invariant-loop-rect
invariant-loop-rect l = record {
  bytes : flat_map copy_rect_bytes l.copy_rects.items ≡ flat_map (copy_bytes l.offset) (take l.rect-index l.rects);
  count : length l.copy_rects.items ≡ l.rect-index;
}
