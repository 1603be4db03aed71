-- The bytes of what a viewer is sent (RFC 6143, 7.6).
use Rattle.std.specs.Prelude.{ℕ, ◌+◌, Bool, if◌then◌else◌, List, [], ◌++◌, length, flat_map, ℤ, ◌-ℤ◌, nat_abs}
use Rattle.region.specs.declared.Rect.{Rect}
use Rattle.pixel_translate.specs.declared.Area.{Area}
use Rattle.pixel_translate.specs.declared.PixelFormat.{PixelFormat}
use Rattle.encode_raw.specs.Raw.{head, raw, copyrect}
use Rattle.encode_rre.specs.Rre.{rre}
use Rattle.encode_hextile.specs.Hextile.{hextile}
use Rattle.messages.specs.declared.Encoding.{Encoding}
use Rattle.messages.specs.declared.Encoding.TheVariants as encoding
use Rattle.messages.specs.Grammar.{desktop_size}
use Rattle.messages.specs.Server.{bell, cut_text, colour_map, update_head}
use Rattle.framebuffer.specs.Picture.{colours_of}
use Rattle.updates.specs.Areas.{area_of}
use Rattle.updates.specs.declared.notices.Notice.{Notice}
use Rattle.updates.specs.declared.notices.Notice.TheVariants as notice

-- 7.6.2: the colour map, where it is owed
abbrev pub map_bytes : Bool → List ℕ
map_bytes map_owed = if map_owed then colour_map else []

-- 7.6.3 and 7.6.4
abbrev pub notice_bytes : Notice → List ℕ
notice_bytes notice.Bell = bell
notice_bytes (notice.CutText text) = cut_text text

-- 7.7.1, 7.7.3 and 7.7.4: a rectangle of colours, in the viewer's encoding and format
abbrev pub encoded : Encoding → PixelFormat → Area → List ℕ → List ℕ
encoded encoding.Raw f a colours = raw f a colours
encoded encoding.Rre f a colours = rre f a colours
encoded encoding.Hextile f a colours = hextile f a colours

-- 7.7.2: a copy names its source
abbrev pub copy_bytes : ℤ × ℤ → Rect → List ℕ
copy_bytes by r = copyrect (area_of r) (nat_abs (r.x1 -ℤ by.0)) (nat_abs (r.y1 -ℤ by.1))

-- the colours of a rectangle of the picture
abbrev pub pixel_rectangle : (width height : ℕ) (picture : List ℕ) → Encoding → PixelFormat → Rect → List ℕ
pixel_rectangle w h picture e f r = encoded e f (area_of r) (colours_of w h picture r)

-- 7.6.1: the copies, then the pixels
abbrev pub bytes_of : (width height : ℕ) (picture : List ℕ) → Encoding → PixelFormat → (copies : List Rect) (offset : ℤ × ℤ) (pixels : List Rect) → List ℕ
bytes_of w h picture e f copies by pixels =
    update_head (length copies + length pixels) ++ flat_map (copy_bytes by) copies ++ flat_map (pixel_rectangle w h picture e f) pixels

-- 7.8.2: an update with one rectangle, which tells a size
abbrev pub size_bytes : (width height : ℕ) → List ℕ
size_bytes w h = update_head 1 ++ head (record { x = 0; y = 0; w = w; h = h }) desktop_size
