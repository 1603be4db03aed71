-- An update's bytes, by what it keeps.
use Rattle.std.specs.Prelude.{◌≢◌, ℕ, ◌+◌, Bool, List, [], ◌++◌, length, flat_map}
use Rattle.std.specs.Arc.{arc_value}
use Rattle.pixel_translate.specs.declared.PixelFormat.{PixelFormat}
use Rattle.encode_raw.specs.Raw.{copyrect}
use Rattle.messages.specs.declared.Encoding.{Encoding}
use Rattle.messages.specs.Server.{update_head}
use Rattle.updates.specs.declared.notices.Notice.{Notice}
use Rattle.updates.specs.declared.parts.CopyRect.{CopyRect}
use Rattle.updates.specs.declared.parts.Coloured.{Coloured}
use Rattle.updates.specs.declared.parts.Rectangles.{Rectangles}
use Rattle.updates.specs.declared.parts.Part.{Part}
use Rattle.updates.specs.declared.parts.Part.TheVariants.{Nothing, NewSize, Places}
use Rattle.updates.specs.declared.parts.Part.TheVariants as part
use Rattle.updates.specs.declared.parts.Shared.{Shared}
use Rattle.updates.specs.Bytes.{encoded, map_bytes, notice_bytes, size_bytes}

abbrev pub copy_rect_bytes : CopyRect → List ℕ
copy_rect_bytes m = copyrect m.area m.src_x m.src_y

abbrev pub coloured_bytes : Encoding → PixelFormat → Coloured → List ℕ
coloured_bytes e f c = encoded e f c.area c.colours

-- 7.6.1: the copies, then the pixels
abbrev pub kept_bytes : Encoding → PixelFormat → List CopyRect → List Coloured → List ℕ
kept_bytes e f copy_rects rectangles = update_head (length copy_rects + length rectangles) ++ flat_map copy_rect_bytes copy_rects ++ flat_map (coloured_bytes e f) rectangles

abbrev pub rectangles_bytes : Rectangles → List ℕ
rectangles_bytes r = kept_bytes r.encoding r.format r.copy_rects.items r.coloured.items

-- the same, of rectangles that were encoded for several viewers
abbrev pub shared_bytes : Shared → List ℕ
shared_bytes s = s.front.items ++ (arc_value s.pixels).items

-- 7.6.1, 7.8.2: what an update says of the screen: nothing, a new size, or rectangles
abbrev pub part_bytes : Part → List ℕ
part_bytes Nothing = []
part_bytes (NewSize size) = size_bytes size.width size.height
part_bytes (Places r) = rectangles_bytes r
part_bytes (part.Shared s) = shared_bytes s

-- what is said isn't empty, unless it is nothing
abbrev pub IsSomething : Part → Type 0
IsSomething Nothing = Unit {0}
IsSomething part = part_bytes part ≢ []

-- 7.6: the colour map where it is owed, the notices, then the size or the rectangles
abbrev pub all_bytes : Bool → List Notice → Part → List ℕ
all_bytes map_owed notices part = (map_bytes map_owed ++ flat_map notice_bytes notices) ++ part_bytes part
