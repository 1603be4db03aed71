-- How a viewer reads what the server sends once the conversation is open, by RFC 6143 sections 7.6 and 7.7 alone.
use Rattle.std.specs.Prelude.{ℕ, zero, suc, ℤ, pos, ◌+◌, ◌==◌, nat_le, Bool, ◌&&◌, ◌||◌, if◌then◌else◌, List, [], ◌∷◌, length, Option, None, Some}
use Rattle.std.specs.List.{list_any}
use Rattle.std.specs.Ordering.{int_eq}
use Rattle.std.specs.Int.{w16, w32}
use Rattle.pixel_translate.specs.declared.Area.{Area}
use Rattle.pixel_translate.specs.declared.PixelFormat.{PixelFormat}
use Rattle.messages.specs.Grammar.{desktop_size, is_desktop_size}
use Rattle.encode_raw.specs.Reading.{◌>>=◌, bytes_at, number_at, head_at, Shown, Patch, patched, raw_at, copyrect_at}
use Rattle.subrectangles.specs.Reading.{rre_at}
use Rattle.encode_hextile.specs.Reading.{hextile_at}

-- What a viewer goes by when an update comes: the picture's size (7.3.2), the format of pixels (7.5.1), and the encodings that it
-- listed last (7.5.2).
pub record Agreed : Type 0 where
  pub width : ℕ
  pub height : ℕ
  pub format : PixelFormat
  pub listed : List ℤ

-- no place of an area is beyond the picture
abbrev pub is_in_picture : Agreed → Area → Bool
is_in_picture agreed a = nat_le (a.x + a.w) agreed.width && nat_le (a.y + a.h) agreed.height

-- 7.5.2: encodings that may come are those that were listed; 7.7.1: and Raw
abbrev pub may_come : List ℤ → ℤ → Bool
may_come listed encoding = int_eq encoding (pos 0) || list_any (int_eq encoding) listed

-- a rectangle's pixels, if they can be read, over what is shown
abbrev pub written : PixelFormat → Area → Shown → Option (Patch × List ℕ) → Option (Shown × List ℕ)
written f a shown read = do
  patch ← read
  Some (patched f a patch.0 shown, patch.1)

-- 7.7.2: a copy of what is in the picture
abbrev pub copy_at : Agreed → Area → Shown → List ℕ → Option (Shown × List ℕ)
copy_at agreed a shown bytes = do
  x ← number_at w16 bytes
  y ← number_at w16 x.1
  if is_in_picture agreed (record a { x = x.0; y = y.0 }) then copyrect_at a shown bytes else None

-- 7.7: a rectangle's data, by its encoding: Raw is 0, CopyRect 1, RRE 2 and Hextile 5
abbrev pub data_at : Agreed → Area → Shown → ℤ → List ℕ → Option (Shown × List ℕ)
data_at agreed a shown (pos zero) bytes = written agreed.format a shown (raw_at agreed.format a.w a.h bytes)
data_at agreed a shown (pos (suc zero)) bytes = copy_at agreed a shown bytes
data_at agreed a shown (pos (suc (suc zero))) bytes = written agreed.format a shown (rre_at agreed.format bytes)
data_at agreed a shown (pos (suc (suc (suc (suc (suc zero)))))) bytes = written agreed.format a shown (hextile_at agreed.format a.w a.h bytes)
data_at agreed a shown _ bytes = None

-- 7.6.1: a rectangle of the picture, in an encoding that may come
abbrev pub rectangle_at : Agreed → Shown → List ℕ → Option (Shown × List ℕ)
rectangle_at agreed shown bytes = do
  head ← head_at bytes
  if is_in_picture agreed head.0.area && may_come agreed.listed head.0.encoding then data_at agreed head.0.area shown head.0.encoding head.1 else None

-- 7.6.2: what the entries of a viewer's colour map are, as far as they were set: red, green and blue
abbrev pub ColourMap : Type 0
ColourMap = ℕ → Option (ℕ × ℕ × ℕ)

abbrev pub nothing_mapped : ColourMap
nothing_mapped entry = None

-- what a viewer has of what it was sent: what it goes by, what it shows, and its colour map
pub record Display : Type 0 where
  pub agreed : Agreed
  pub shown : Shown
  pub colours : ColourMap

abbrev pub nothing_shown : Shown
nothing_shown x y = None

-- 7.8.2: the picture has a new size, and shows nothing
abbrev pub with_size : Area → Display → Display
with_size a d = record d { agreed = record d.agreed { width = a.w; height = a.h }; shown = nothing_shown }

-- 7.8.2: a rectangle that is a new size, where DesktopSize may come
abbrev pub size_at : Display → List ℕ → Option (Display × List ℕ)
size_at d bytes = do
  head ← head_at bytes
  if is_desktop_size head.0.encoding && may_come d.agreed.listed desktop_size then Some (with_size head.0.area d, head.1) else None

-- 7.6.1, 7.8.2: a rectangle of the picture, or else a new size
abbrev pub next_by : Display → List ℕ → Option (Shown × List ℕ) → Option (Display × List ℕ)
next_by d bytes None = size_at d bytes
next_by d bytes (Some read) = Some (record d { shown = read.0 }, read.1)

abbrev pub next_at : Display → List ℕ → Option (Display × List ℕ)
next_at d bytes = next_by d bytes (rectangle_at d.agreed d.shown bytes)

-- 7.6.1: so many, in the order sent
unfoldable pub rectangles_at : ℕ → Display → List ℕ → Option (Display × List ℕ)
rectangles_at zero d bytes = Some (d, bytes)
rectangles_at (suc n) d bytes = do
  first ← next_at d bytes
  rectangles_at n first.0 first.1

-- 7.6.1: an update, behind its first byte
abbrev pub update_at : Display → List ℕ → Option (Display × List ℕ)
update_at d bytes = do
  padding ← bytes_at 1 bytes
  count ← number_at w16 padding.1
  rectangles_at count.0 d count.1

-- 7.6.2: so many entries, from one on
unfoldable pub entries_at : ℕ → ℕ → ColourMap → List ℕ → Option (ColourMap × List ℕ)
entries_at zero first colours bytes = Some (colours, bytes)
entries_at (suc n) first colours bytes = do
  red ← number_at w16 bytes
  green ← number_at w16 red.1
  blue ← number_at w16 green.1
  entries_at n (first + 1) (λ entry. if entry == first then Some (red.0, green.0, blue.0) else colours entry) blue.1

-- 7.6.2: entries of the colour map, behind their first byte
abbrev pub map_at : ColourMap → List ℕ → Option (ColourMap × List ℕ)
map_at colours bytes = do
  padding ← bytes_at 1 bytes
  first ← number_at w16 padding.1
  count ← number_at w16 first.1
  entries_at count.0 first.0 colours count.1

-- 7.6.4: a text, behind its first byte; it shows nothing
abbrev pub text_at : List ℕ → Option (List ℕ)
text_at bytes = do
  padding ← bytes_at 3 bytes
  long ← number_at w32 padding.1
  text ← bytes_at long.0 long.1
  Some text.1

-- 7.6: a message: an update is of type 0, entries of the colour map of type 1, a bell of type 2, a text of type 3
abbrev pub message_of : Display → ℕ → List ℕ → Option (Display × List ℕ)
message_of d kind bytes =
    if kind == 0 then update_at d bytes
    else (if kind == 1 then (map_at d.colours bytes >>= λ r. Some (record d { colours = r.0 }, r.1))
    else (if kind == 2 then Some (d, bytes)
    else (if kind == 3 then (text_at bytes >>= λ more. Some (d, more))
    else None)))

-- 7.6: messages one after the other, up to the end of the bytes; there are no more than bytes
unfoldable pub messages_in : ℕ → Display → List ℕ → Option Display
messages_in n d [] = Some d
messages_in zero d (b ∷ bytes) = None
messages_in (suc n) d (b ∷ bytes) = do
  first ← message_of d b bytes
  messages_in n first.0 first.1

abbrev pub messages_at : Display → List ℕ → Option Display
messages_at d bytes = messages_in (length bytes) d bytes
