-- Rectangles that are encoded once for viewers that are alike.
use Rattle.std.specs.Prelude.{ℕ, Bool, if◌then◌else◌, List, drop, flat_map}
use Rattle.std.specs.Arc.{arc_value}
use Rattle.region.specs.declared.Rect.{Rect}
use Rattle.framebuffer.specs.Frame.{Frame}
use Rattle.pixel_translate.specs.declared.PixelFormat.{PixelFormat}
use Rattle.messages.specs.declared.Encoding.{Encoding}
use Rattle.updates.specs.declared.parts.Shared.{Shared}
use Rattle.updates.specs.Bytes.{pixel_rectangle}
use Rattle.updates.specs.Updates.{shared_bytes}

-- rectangles of a picture, one behind the other, in an encoding and a format
abbrev pub pixels_of : Frame → Encoding → PixelFormat → List Rect → List ℕ
pixels_of p e f rects = flat_map (pixel_rectangle p.width p.height p.colours e f) rects

-- what of an update is left: behind the head and the copies, where these are given, all but so many bytes of the rectangles
abbrev pub left_of_shared : Shared → Bool → ℕ → List ℕ
left_of_shared s opened given = if opened then drop given (arc_value s.pixels).items else shared_bytes s
