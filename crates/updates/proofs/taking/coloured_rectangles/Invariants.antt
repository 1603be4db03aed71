use Rattle.std.proofs.Common.{◌≡◌, length, take}
use Rattle.std.specs.List.{flat_map}
use Rattle.pixel_translate.specs.declared.PixelFormat.{PixelFormat}
use Rattle.messages.specs.declared.Encoding.{Encoding}
use Rattle.updates.specs.Bytes.{pixel_rectangle}
use Rattle.updates.specs.Updates.{coloured_bytes}
use Rattle.updates.proofs.taking.coloured_rectangles.Given as goal

-- the rectangles so far
abbrev pub invariant-loop-rect : goal.invariant-loop-rect
invariant-loop-rect l = record {
  bytes : (encoding : Encoding) (format : PixelFormat) → flat_map (coloured_bytes encoding format) l.parts.items ≡ flat_map (pixel_rectangle l.fn.picture.width l.fn.picture.height l.fn.picture.colours encoding format) (take l.rect-index l.rects);
  same : l.picture ≡ l.fn.picture;
  count : length l.parts.items ≡ l.rect-index;
}
