-- What is kept of a picture's rectangles that were encoded for viewers that are alike.
use Rattle.std.specs.Prelude.{◌≡◌, ◌&&◌, ℕ, Bool, List, ◌++◌}
use Rattle.std.specs.Ordering.{int_eq}
use Rattle.std.specs.Arc.{arc_value}
use Rattle.region.specs.declared.Rect.{Rect}
use Rattle.framebuffer.specs.Frame.{Frame}
use Rattle.updates.specs.Shared.{pixels_of}
use Rattle.picture.specs.declared.encoded.Wanted.{Wanted}
use Rattle.picture.specs.declared.encoded.Encoded.{Encoded}
use Rattle.picture.specs.declared.encoded.Growing.{Growing}

-- whether two rectangles are equal
abbrev pub same_rect : Rect → Rect → Bool
same_rect r s = int_eq r.x1 s.x1 && int_eq r.y1 s.y1 && int_eq r.x2 s.x2 && int_eq r.y2 s.y2

-- the bytes of the rectangles that are wanted of a picture
abbrev pub wanted_bytes : Frame → Wanted → List ℕ
wanted_bytes p w = pixels_of p w.encoding w.format w.rects.items

-- what is encoded is what these rectangles of the picture are encoded as
abbrev pub IsOf : Frame → Encoded → Type 0
IsOf p e = (arc_value e.bytes).items ≡ wanted_bytes p e.wanted

-- so is what is encoded so far, with what is left
abbrev pub GrowsTo : Frame → Growing → Type 0
GrowsTo p g = g.bytes.items ++ g.remaining ≡ wanted_bytes p g.wanted
